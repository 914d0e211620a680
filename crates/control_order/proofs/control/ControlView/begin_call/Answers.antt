use Rattle.std.proofs.Common.{◌++◌, true, ap, ◌∙◌}
use Rattle.step_law.specs.declared.actor.Actor.TheVariants.{Control}
use Rattle.step_law.specs.Entry.{begin_of}
use Rattle.record_law.specs.Entries.{same_entry}
use Rattle.record_law.specs.Message.{History}
use Rattle.control_order.specs.declared.control_stage.ControlStage.TheVariants.{Calling}
use Rattle.record_terms.specs.declared.message.Message.TheVariants.{Nothing}
use Rattle.control_order.specs.Control.{after_round, call_of, control_goes}
use Rattle.control_order.proofs.ControlActs.{judges_as}
use Rattle.control_order.proofs.ControlTasks.{calls_more, wanted}
use Rattle.control_order.proofs.control.ControlView.begin_call.Goals as goal

pub returns-clause-judged : goal.returns-clause-judged
returns-clause-judged c =
    let v = c.args.self.now in
    let s = v.shape.now in
    let round = c.args.round in
    let stage = Calling round c.args.inst true in
    let begin = c.begin-begin.ensures ∙ ap (λ call. begin_of Control call c.args.inst) c.call_of.ensures in
    let answer = c.expect.ensures.value ∙ ap (λ it. control_goes (same_entry it v.entry) Nothing stage) begin in
    judges_as v _ _ c.expect.result (ap (λ tasks. tasks ++ after_round s round) (calls_more s (call_of round) c.args.inst c.requires))
    (λ (h : History) seen. wanted s (same_entry (begin_of Control (call_of round) c.args.inst) v.entry) Nothing stage _ c.expect.result answer)
