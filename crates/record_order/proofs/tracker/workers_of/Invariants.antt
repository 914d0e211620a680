use Rattle.record_order.specs.Tracked.{HasWorkers}
use Rattle.record_order.proofs.tracker.workers_of.Given as goal

abbrev pub invariant-loop-index : goal.invariant-loop-index
invariant-loop-index l = HasWorkers l.shape l.workers.items l.index
