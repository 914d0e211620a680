use Rattle.std.proofs.Common.{◌+◌, List, sym, subst}
use Rattle.worker_order.specs.declared.worker_tracker.WorkerTracker.{WorkerTracker}
use Rattle.record_order.specs.Tracked.{HasWorkers}
use Rattle.record_order.proofs.Joint.{has_more}
use Rattle.record_order.proofs.tracker.workers_of.Goals as goal

pub loop-index-preserved : goal.loop-index-preserved
loop-index-preserved c =
    let new = c.in_ok-new in
    subst (λ workers. HasWorkers c.args.shape.now workers (c.loop-index.index + 1)) (sym {A = List WorkerTracker} c.in_ok-push.ensures.items)
    (has_more c.args.shape.now c.loop-index.workers.items new.field-0 c.loop-index.index c.loop-index.invariant new.ensures.worker new.ensures.tracker
    new.ensures.stands)
