use Rattle.std.proofs.Common.{◌≡◌, ◌≤◌, ◌+◌, ◌++◌, ◌∷◌, [], List, drop, length, ap, sym, ◌∙◌, arith, append_assoc}
use Rattle.step_law.specs.declared.call.Call.TheVariants.{Deactivate, Cleanup}
use Rattle.step_law.specs.Entry.{last}
use Rattle.record_law.specs.Actions.{finish}
use Rattle.record_law.specs.Control.{finish_from}
use Rattle.record_law.specs.Message.Message.{nothing}
use Rattle.record_law.specs.Task.{Task}
use Rattle.record_law.specs.Task.Task.{one}
use Rattle.control_order.specs.Control.{calls_left, finish_left}
use Rattle.control_order.proofs.ControlActs.{judges_as}
use Rattle.control_order.proofs.ControlTasks.{drop_at, past_none}
use Rattle.control_order.proofs.control.ControlView.finish.Goals as goal

pub returns-in-Some-clause-judged : goal.returns-in-Some-clause-judged
returns-in-Some-clause-judged c =
    let v = c.args.self.now in
    let s = v.shape.now in
    let k = c.args.action in
    let it = c.in-Some.it in
    let at = sym c.get.ensures.value ∙ sym c.copied.ensures ∙ c.in-Some.is in
    let rest : List Task = calls_left s Deactivate 0 ++ (calls_left s Cleanup 0 ++ one last nothing ∷ []) in
    let same = ap (λ actions. finish_from k actions ++ rest) (drop_at s.actions k it at)
    ∙ append_assoc (finish it.kind k it.inst) (finish_from (k + 1) (drop (k + 1) s.actions)) rest in
    judges_as v _ _ c.finish_one.result same c.finish_one.ensures.judged

pub returns-in-None-clause-judged : goal.returns-in-None-clause-judged
returns-in-None-clause-judged c =
    let v = c.args.self.now in
    let s = v.shape.now in
    let k = c.args.action in
    let past : length s.actions ≤ k = past_none s.actions k (sym c.get.ensures.value ∙ sym c.copied.ensures ∙ c.in-None.is) in
    let same : k ≡ length s.actions = omega arith in
    judges_as v _ _ c.clean.result (ap (finish_left s) same) c.clean.ensures.judged
