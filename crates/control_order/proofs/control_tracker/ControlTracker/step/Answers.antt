use Rattle.control_order.proofs.TrackedControls.{control_moves}
use Rattle.control_order.proofs.control_tracker.ControlTracker.step.Goals as goal

pub returns-clause-goes : goal.returns-clause-goes
returns-clause-goes c =
    control_moves c.args.shape.now c.args.self.now c.progress_after-self.result c.args.brought c.args.entry c.in_ok-about.field-0 c.in_ok-about.ensures.judged
    c.progress_after-self.ensures
