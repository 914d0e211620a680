use Rattle.std.proofs.Common.{ap}
use Rattle.control_order.specs.Control.{stages_left}
use Rattle.control_order.proofs.ControlActs.{acts_as}
use Rattle.control_order.proofs.control.ControlView.act.Goals as goal

pub returns-in-Ask-clause-judged : goal.returns-in-Ask-clause-judged
returns-in-Ask-clause-judged c =
    acts_as c.args.self.now _ _ c.ask.result (ap (stages_left c.args.self.now.shape.now c.args.action) c.in-Ask.is) (c.ask.ensures.judged c.args.action)

pub returns-in-Hear-clause-judged : goal.returns-in-Hear-clause-judged
returns-in-Hear-clause-judged c =
    acts_as c.args.self.now _ _ c.hear.result (ap (stages_left c.args.self.now.shape.now c.args.action) c.in-Hear.is) (c.hear.ensures.judged c.args.action)
