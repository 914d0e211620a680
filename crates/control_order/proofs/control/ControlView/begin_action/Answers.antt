use Rattle.std.proofs.Common.{◌+◌, ◌++◌, ap, ⊎_elim}
use Rattle.record_law.specs.Actions.{stages_of}
use Rattle.record_law.specs.Shape.{worker_of}
use Rattle.control_order.specs.Control.{actions_left}
use Rattle.control_order.proofs.ControlActs.{acts_as}
use Rattle.control_order.proofs.control.ControlView.begin_action.Goals as goal

pub returns-in-Set-clause-judged : goal.returns-in-Set-clause-judged
returns-in-Set-clause-judged c =
    let v = c.args.self.now in
    let s = v.shape.now in
    let it = c.args.it in
    let k = c.args.action in
    ⊎_elim
    (λ is. acts_as v _ _ c.tell_input.result (ap (λ kind. stages_of kind k it.inst (worker_of s it.inst) ++ actions_left s (k + 1)) is) c.tell_input.ensures.judged)
    (λ is. acts_as v _ _ c.tell_input.result (ap (λ kind. stages_of kind k it.inst (worker_of s it.inst) ++ actions_left s (k + 1)) is) c.tell_input.ensures.judged)
    c.in-Set.is

pub returns-in-Save-clause-judged : goal.returns-in-Save-clause-judged
returns-in-Save-clause-judged c =
    let v = c.args.self.now in
    let s = v.shape.now in
    let it = c.args.it in
    let k = c.args.action in
    acts_as v _ _ c.ask.result (ap (λ kind. stages_of kind k it.inst (worker_of s it.inst) ++ actions_left s (k + 1)) c.in-Save.is) (c.ask.ensures.judged k)

pub returns-in-RestoreSafe-clause-judged : goal.returns-in-RestoreSafe-clause-judged
returns-in-RestoreSafe-clause-judged c =
    let v = c.args.self.now in
    let s = v.shape.now in
    let it = c.args.it in
    let k = c.args.action in
    acts_as v _ _ c.ask-in-RestoreSafe.result (ap (λ kind. stages_of kind k it.inst (worker_of s it.inst) ++ actions_left s (k + 1)) c.in-RestoreSafe.is)
    (c.ask-in-RestoreSafe.ensures.judged k)

pub returns-in-Restore-clause-judged : goal.returns-in-Restore-clause-judged
returns-in-Restore-clause-judged c =
    let v = c.args.self.now in
    let s = v.shape.now in
    let it = c.args.it in
    let k = c.args.action in
    acts_as v _ _ c.ask_front.result (ap (λ kind. stages_of kind k it.inst (worker_of s it.inst) ++ actions_left s (k + 1)) c.in-Restore.is) c.ask_front.ensures.judged
