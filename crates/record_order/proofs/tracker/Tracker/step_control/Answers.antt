use Rattle.record_order.proofs.Joint.{joint_control}
use Rattle.record_order.proofs.tracker.Tracker.step_control.Goals as goal

pub returns-clause-goes : goal.returns-clause-goes
returns-clause-goes c =
    joint_control c.args.shape.now c.args.self.now c.args.brought c.args.entry c.requires.actor c.step.new.self c.requires.tracker c.step.result
    c.step.ensures.goes
