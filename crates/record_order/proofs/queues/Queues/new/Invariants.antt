use Rattle.record_order.specs.Queues.{HasQueues}
use Rattle.record_order.proofs.queues.Queues.new.Given as goal

abbrev pub invariant-loop-ring : goal.invariant-loop-ring
invariant-loop-ring l = HasQueues l.room l.queues.items l.ring
