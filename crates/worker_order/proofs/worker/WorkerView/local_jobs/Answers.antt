use Rattle.std.proofs.Common.{◌≡◌, ◌<◌, ◌++◌, ◌∷◌, [], Bool, true, false, nat_lt, List, length, ap, sym, ◌∙◌, arith}
use Rattle.step_law.specs.declared.actor.Actor.TheVariants.{Worker}
use Rattle.step_law.specs.declared.ring.Ring.TheVariants.{LocalJobs}
use Rattle.step_law.specs.Entry.{take_of}
use Rattle.record_law.specs.Entries.{same_entry}
use Rattle.record_law.specs.History.{waiting}
use Rattle.record_law.specs.Message.{History}
use Rattle.record_law.specs.Protocol.{follow}
use Rattle.record_law.specs.Task.{Task, only_if}
use Rattle.record_law.specs.Task.Task.{local_jobs}
use Rattle.record_law.specs.Worker.{work_on}
use Rattle.record_terms.specs.declared.message.Message.TheVariants.{Answer}
use Rattle.worker_order.specs.declared.worker_stage.AfterWork.TheVariants.{Restored}
use Rattle.worker_order.specs.declared.worker_stage.WorkStage.TheVariants.{Taken}
use Rattle.worker_order.specs.declared.worker_stage.WorkerStage.TheVariants.{Working}
use Rattle.record_terms.specs.Message.{meaning_of}
use Rattle.worker_order.specs.Worker.{answer_left, worker_goes}
use Rattle.order_base.proofs.Follow.{not_due, is_due, only_made}
use Rattle.worker_order.proofs.LocalTables.{has_waiting}
use Rattle.worker_order.proofs.WorkerTasks.{made_goes}
use Rattle.worker_order.proofs.worker.WorkerView.local_jobs.Goals as goal

pub returns-then-has_local-clause-judged : goal.returns-then-has_local-clause-judged
returns-then-has_local-clause-judged c =
    let v = c.args.self.now in
    let inst = c.args.inst in
    let taken = meaning_of v.brought in
    let inside : inst < length v.locals.now = omega arith in
    let later : List Task = answer_left v.worker (Answer c.args.action) in
    let first : List Task = work_on v.worker inst ++ local_jobs v.worker inst ∷ [] in
    let take : Bool = same_entry (take_of (Worker v.worker) (LocalJobs inst)) v.entry in
    let stage = Working inst Taken (Restored c.args.action) in
    let answer = c.expect.ensures.value ∙ ap (λ it. worker_goes (same_entry it v.entry) v.brought stage) c.take-take.ensures in
    λ (h : History) knows.
    let due : nat_lt 0 (waiting (LocalJobs inst) h) ≡ true =
    sym (has_waiting v.locals.now inst h inside knows.locals knows.short) ∙ sym c.has_local.ensures ∙ c.if-has_local.true in
    is_due (nat_lt 0 (waiting (LocalJobs inst) h)) (only_if take taken first) later (follow v.shape.now h taken later v.entry) due
    ∙ only_made take taken first later (follow v.shape.now h taken later v.entry)
    ∙ made_goes v.shape.now v.worker take v.brought stage c.expect.result answer

pub returns-else-has_local-clause-judged : goal.returns-else-has_local-clause-judged
returns-else-has_local-clause-judged c =
    let v = c.args.self.now in
    let inst = c.args.inst in
    let taken = meaning_of v.brought in
    let inside : inst < length v.locals.now = omega arith in
    let later : List Task = answer_left v.worker (Answer c.args.action) in
    let first : List Task = work_on v.worker inst ++ local_jobs v.worker inst ∷ [] in
    let take : Bool = same_entry (take_of (Worker v.worker) (LocalJobs inst)) v.entry in
    λ (h : History) knows.
    let due : nat_lt 0 (waiting (LocalJobs inst) h) ≡ false =
    sym (has_waiting v.locals.now inst h inside knows.locals knows.short) ∙ sym c.has_local.ensures ∙ c.if-has_local.false in
    not_due (nat_lt 0 (waiting (LocalJobs inst) h)) (only_if take taken first) later (follow v.shape.now h taken later v.entry) due
    ∙ c.answering.ensures.judged h knows
