use Rattle.std.proofs.Common.{◌≡◌, map, take}
use Rattle.session_play.specs.SessionShape.{action_from}
use Rattle.setup_shape.proofs.actions_of.Given as goal

abbrev pub invariant-loop-action : goal.invariant-loop-action
invariant-loop-action l = l.actions ≡ map (action_from l.setup) (take l.action-index l.action-items)
