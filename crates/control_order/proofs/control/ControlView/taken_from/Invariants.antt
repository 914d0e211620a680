use Rattle.control_order.specs.ControlView.{TakesNone}
use Rattle.control_order.proofs.control.ControlView.taken_from.Given as goal

abbrev pub invariant-loop-worker : goal.invariant-loop-worker
invariant-loop-worker l = TakesNone l.self l.first l.worker
