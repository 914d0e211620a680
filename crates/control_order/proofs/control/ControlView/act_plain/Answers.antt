use Rattle.std.proofs.Common.{◌+◌, ap}
use Rattle.control_order.specs.Control.{plain_left}
use Rattle.control_order.proofs.ControlActs.{acts_as}
use Rattle.control_order.proofs.control.ControlView.act_plain.Goals as goal

pub returns-in-AskBack-clause-judged : goal.returns-in-AskBack-clause-judged
returns-in-AskBack-clause-judged c =
    acts_as c.args.self.now _ _ c.ask.result (ap (plain_left c.args.self.now.shape.now c.args.action c.args.inst) c.in-AskBack.is) (c.ask.ensures.judged c.args.action)

pub returns-in-TakeBack-clause-judged : goal.returns-in-TakeBack-clause-judged
returns-in-TakeBack-clause-judged c =
    acts_as c.args.self.now _ _ c.hear.result (ap (plain_left c.args.self.now.shape.now c.args.action c.args.inst) c.in-TakeBack.is)
    (c.hear.ensures.judged c.args.action)

pub returns-in-GiveBack-clause-judged : goal.returns-in-GiveBack-clause-judged
returns-in-GiveBack-clause-judged c =
    acts_as c.args.self.now _ _ c.ask-in-GiveBack.result (ap (plain_left c.args.self.now.shape.now c.args.action c.args.inst) c.in-GiveBack.is)
    (c.ask-in-GiveBack.ensures.judged (c.args.action + 1))
