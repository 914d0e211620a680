use Rattle.worked_plays.proofs.Actions.{saving, saved}
use Rattle.worked_plays.proofs.states_are_saved.Goals as goal

pub returns-clause-played : goal.returns-clause-played
returns-clause-played c = saving

pub returns-clause-saved : goal.returns-clause-saved
returns-clause-saved c = saved
