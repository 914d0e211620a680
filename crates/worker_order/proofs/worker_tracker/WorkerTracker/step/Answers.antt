use Rattle.worker_order.proofs.TrackedWorkers.{worker_moves}
use Rattle.worker_order.proofs.worker_tracker.WorkerTracker.step.Goals as goal

pub returns-clause-goes : goal.returns-clause-goes
returns-clause-goes c =
    worker_moves c.args.shape.now c.args.self.now c.note_back.new.backs c.note_local.new.locals c.is_closed-self.result c.args.brought c.args.entry
    c.in_ok-about.field-0 c.in_ok-about.ensures.judged c.note_back.ensures.noted c.note_local.ensures.noted c.is_closed-self.ensures
