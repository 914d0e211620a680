use Rattle.std.proofs.Common.{◌≡◌, ◌+◌, ◌-◌, ◌++◌, ◌∷◌, [], Bool, false, List, map, ap, sym, ◌∙◌, arith}
use Rattle.std.specs.List.{range_with_len}
use Rattle.step_law.specs.declared.actor.Actor.TheVariants.{Control}
use Rattle.step_law.specs.declared.ring.Ring.TheVariants.{AudioToControl, WorkerToControl}
use Rattle.step_law.specs.Entry.{take_of}
use Rattle.record_law.specs.Entries.{same_entry}
use Rattle.record_law.specs.Message.{History}
use Rattle.record_law.specs.Protocol.{follow}
use Rattle.record_law.specs.Task.{Task}
use Rattle.record_law.specs.Task.Task.{leftovers}
use Rattle.control_order.specs.Control.{finish_left}
use Rattle.record_terms.specs.Message.{meaning_of}
use Rattle.control_order.proofs.ControlTasks.{passed}
use Rattle.control_order.proofs.control.ControlView.taking.Goals as goal

pub returns-else-is_same-clause-judged : goal.returns-else-is_same-clause-judged
returns-else-is_same-clause-judged c =
    let v = c.args.self.now in
    let s = v.shape.now in
    let taken = meaning_of v.brought in
    let take : Bool = same_entry (take_of Control AudioToControl) v.entry in
    let other : take ≡ false = sym (c.is_same.ensures ∙ ap (λ it. same_entry it v.entry) c.take.ensures) ∙ c.if-is_same.false in
    let all : s.workers ≡ s.workers + 1 - 1 = omega arith in
    let tail : List Task = finish_left s c.args.unfinished in
    let tasks : List Task = map leftovers (map WorkerToControl (range_with_len 1 s.workers)) ++ tail in
    λ (h : History) seen.
    passed s h taken v.entry take (leftovers AudioToControl ∷ []) tasks (follow s h taken tasks v.entry) other
    ∙ ap (λ n. follow s h taken (map leftovers (map WorkerToControl (range_with_len 1 n)) ++ tail) v.entry) all
    ∙ c.taking_from.ensures.judged h seen
