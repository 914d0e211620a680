use Rattle.record_order.proofs.Joint.{joint_audio}
use Rattle.record_order.proofs.tracker.Tracker.step_audio.Goals as goal

pub returns-clause-goes : goal.returns-clause-goes
returns-clause-goes c =
    joint_audio c.args.shape.now c.args.self.now c.args.brought c.args.entry c.requires.actor c.step.new.self c.requires.tracker c.step.result c.step.ensures.goes
