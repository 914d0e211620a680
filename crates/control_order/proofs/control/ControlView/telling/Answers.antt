use Rattle.std.proofs.Common.{◌≡◌, ◌+◌, ◌-◌, ◌++◌, ◌∷◌, [], suc, Bool, false, List, map, ap, sym, ◌∙◌, arith}
use Rattle.std.specs.List.{range_with_len}
use Rattle.std.proofs.lemmas.Bool.{cond-false}
use Rattle.step_law.specs.declared.actor.Actor.TheVariants.{Control}
use Rattle.step_law.specs.declared.ring.Ring.TheVariants.{AudioToControl, ControlToWorker}
use Rattle.step_law.specs.Entry.{join, send_of, take_of}
use Rattle.record_law.specs.Entries.{same_entry}
use Rattle.record_law.specs.Message.{History}
use Rattle.record_law.specs.Message.Message.{nothing, close}
use Rattle.record_law.specs.Protocol.{follow, then_left}
use Rattle.record_law.specs.Task.{Task, Move, only_if}
use Rattle.record_law.specs.Task.Task.{one, closing}
use Rattle.record_law.specs.Task.Move.{goes}
use Rattle.control_order.specs.declared.control_stage.ClosingStage.TheVariants.{Telling}
use Rattle.control_order.specs.declared.control_stage.ControlStage.TheVariants.{Closing}
use Rattle.record_terms.specs.declared.message.Message.TheVariants.{Close}
use Rattle.control_order.specs.Control.{control_goes, taking_left}
use Rattle.record_terms.specs.Message.{meaning_of}
use Rattle.control_order.proofs.ControlActs.{judges_as}
use Rattle.control_order.proofs.ControlTasks.{wanted}
use Rattle.control_order.proofs.control.ControlView.telling.Goals as goal

pub returns-else-is_same-clause-judged : goal.returns-else-is_same-clause-judged
returns-else-is_same-clause-judged c =
    let v = c.args.self.now in
    let s = v.shape.now in
    let k = c.args.unfinished in
    let w = c.args.worker in
    let more : s.workers + 1 - w ≡ suc (s.workers + 1 - (w + 1)) = omega arith in
    let later : List Task = one join nothing ∷ taking_left s k AudioToControl in
    let tasks : List Task = map closing (range_with_len (w + 1) (s.workers + 1 - (w + 1))) ++ later in
    let stage = Closing k (Telling (w + 1)) in
    let take : Bool = same_entry (take_of Control AudioToControl) v.entry in
    let send : Bool = same_entry (send_of Control (ControlToWorker w)) v.entry in
    let other : take ≡ false = sym (c.is_same.ensures ∙ ap (λ it. same_entry it v.entry) c.take.ensures) ∙ c.if-is_same.false in
    let answer = c.expect-else-is_same.ensures.value ∙ ap (λ it. control_goes (same_entry it v.entry) Close stage) c.send-send.ensures in
    judges_as v _ _ c.expect-else-is_same.result (ap (λ n. map closing (range_with_len w n) ++ later) more)
    (λ (h : History) seen.
    ap (λ (m : Move). then_left m tasks (follow s h (meaning_of v.brought) tasks v.entry))
    (cond-false take (goes (meaning_of v.brought) (closing w ∷ [])) (only_if send close []) other)
    ∙ wanted s send Close stage _ c.expect-else-is_same.result answer)
