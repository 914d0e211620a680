use Rattle.std.proofs.Common.{◌≡◌, ◌+◌, ◌-◌, ◌≤◌, ◌++◌, true, map, ap, ◌∙◌, arith}
use Rattle.std.specs.List.{range_with_len}
use Rattle.step_law.specs.declared.ring.Ring.TheVariants.{WorkerToControl}
use Rattle.step_law.specs.declared.actor.Actor.TheVariants.{Control}
use Rattle.step_law.specs.Entry.{take_of}
use Rattle.record_law.specs.Entries.{same_entry}
use Rattle.record_law.specs.Message.{History}
use Rattle.record_law.specs.Task.Task.{leftovers}
use Rattle.control_order.specs.declared.control_stage.ClosingStage.TheVariants.{Taking}
use Rattle.control_order.specs.declared.control_stage.ControlStage.TheVariants.{Closing}
use Rattle.control_order.specs.Control.{finish_left}
use Rattle.record_terms.specs.Message.{meaning_of}
use Rattle.order_base.proofs.Follow.{made}
use Rattle.control_order.proofs.ControlTasks.{leaves_rings, takes_ring, made_goes}
use Rattle.control_order.proofs.control.ControlView.taking_from.Goals as goal

pub returns-in-Some-clause-judged : goal.returns-in-Some-clause-judged
returns-in-Some-clause-judged c =
    let v = c.args.self.now in
    let s = v.shape.now in
    let k = c.args.unfinished in
    let first = c.args.first in
    let worker = c.in-Some.worker in
    let found = c.in-Some.ensures in
    let above : first ≤ worker = found.0 in
    let below : worker ≤ s.workers = found.1 in
    let same : first + (worker - first) ≡ worker = omega arith in
    let rest : s.workers + 1 - first - (worker - first) ≡ s.workers + 1 - worker = omega arith in
    let tail = finish_left s k in
    λ (h : History) seen.
    takes_ring s h (meaning_of v.brought) v.entry (worker - first) (s.workers + 1 - first) first tail (omega arith)
    (λ w more less. found.3 w more (omega arith)) (ap (λ w. same_entry (take_of Control (WorkerToControl w)) v.entry) same ∙ found.2)
    ∙ ap (λ w. made true (meaning_of v.brought) (map leftovers (map WorkerToControl (range_with_len w (s.workers + 1 - first - (worker - first)))) ++ tail)) same
    ∙ ap (λ n. made true (meaning_of v.brought) (map leftovers (map WorkerToControl (range_with_len worker n)) ++ tail)) rest
    ∙ made_goes s true v.brought (Closing k (Taking (WorkerToControl worker))) c.close_on.result c.close_on.ensures.value

pub returns-in-None-clause-judged : goal.returns-in-None-clause-judged
returns-in-None-clause-judged c =
    let v = c.args.self.now in
    let s = v.shape.now in
    let first = c.args.first in
    let none = c.in-None.ensures in
    λ (h : History) seen.
    leaves_rings s h (meaning_of v.brought) v.entry (s.workers + 1 - first) first (finish_left s c.args.unfinished)
    (λ w more less. none w more (omega arith))
    ∙ c.finish.ensures.judged h seen
