use Rattle.order_tests.specs.Tracked.{IsTracked}
use Rattle.order_tests.proofs.tests.accepted_from.Given as goal

abbrev pub invariant-loop-count : goal.invariant-loop-count
invariant-loop-count l = IsTracked l.shape l.tracker l.queues
