use Rattle.worked_plays.proofs.Actions.{answered}
use Rattle.worked_plays.proofs.messages_are_answered.Goals as goal

pub returns : goal.returns
returns c = answered
