use Rattle.worked_plays.proofs.Actions.{in_turn, too_late}
use Rattle.worked_plays.proofs.values_are_set.Goals as goal

pub returns-clause-in_turn : goal.returns-clause-in_turn
returns-clause-in_turn c = in_turn

pub returns-clause-too_late : goal.returns-clause-too_late
returns-clause-too_late c = too_late
