use Rattle.control_order.proofs.control.ControlView.acting.Goals as goal

pub act_on-requires-clause-stage : goal.act_on-requires-clause-stage
act_on-requires-clause-stage c = c.stage_after-stage.ensures.stage c.args.self.now.shape.now c.args.action c.requires.stage
