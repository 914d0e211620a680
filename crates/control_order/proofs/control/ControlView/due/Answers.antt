use Rattle.std.proofs.Common.{◌≡◌, ◌≤◌, length, ap, sym, ◌∙◌, arith, None, []}
use Rattle.record_law.specs.Control.{stages_from, ends}
use Rattle.record_law.specs.Message.{History}
use Rattle.record_law.specs.Protocol.{then_left}
use Rattle.std.proofs.lemmas.List.{drop_all}
use Rattle.control_order.proofs.ControlActs.{acts_as}
use Rattle.control_order.proofs.ControlTasks.{drop_at, past_none}
use Rattle.control_order.proofs.control.ControlView.due.Goals as goal

pub returns-in-Some-clause-judged : goal.returns-in-Some-clause-judged
returns-in-Some-clause-judged c =
    let v = c.args.self.now in
    let s = v.shape.now in
    let k = c.args.action in
    let at = sym c.get.ensures.value ∙ sym c.copied.ensures ∙ c.in-Some.is in
    acts_as v _ _ c.due_at.result (ap (stages_from s k) (drop_at s.actions k c.in-Some.it at)) c.due_at.ensures.judged

pub returns-in-None-clause-judged : goal.returns-in-None-clause-judged
returns-in-None-clause-judged c =
    let v = c.args.self.now in
    let s = v.shape.now in
    let k = c.args.action in
    let past : length s.actions ≤ k = past_none s.actions k (sym c.get.ensures.value ∙ sym c.copied.ensures ∙ c.in-None.is) in
    let same : k ≡ length s.actions = omega arith in
    acts_as v _ [] c.ends.result (ap (stages_from s k) (drop_all k s.actions past))
    (λ (h : History) seen. ap (λ n. then_left (ends s n v.entry) [] None) (sym same) ∙ c.ends.ensures.judged)
