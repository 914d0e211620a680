use Rattle.worked_plays.proofs.Actions.{between, afterwards}
use Rattle.worked_plays.proofs.a_state_is_restored.Goals as goal

pub returns-clause-between : goal.returns-clause-between
returns-clause-between c = between

pub returns-clause-afterwards : goal.returns-clause-afterwards
returns-clause-afterwards c = afterwards
