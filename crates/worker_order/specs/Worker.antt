-- What a worker has left to do at each stage of its work, and what an entry makes of that.
use Rattle.std.specs.Prelude.{ℕ, ◌<◌, Bool, true, false, List, [], ◌∷◌, ◌++◌, length, Option, Some, None}
use Rattle.step_law.specs.declared.actor.Actor.TheVariants as actor
use Rattle.step_law.specs.declared.call.Call.TheVariants as call
use Rattle.step_law.specs.declared.ring.Ring.TheVariants as ring
use Rattle.step_law.specs.Entry.{begin_of, end_of}
use Rattle.record_law.specs.declared.shape.Shape.{Shape}
use Rattle.record_law.specs.Audio.{at_most}
use Rattle.record_law.specs.Message.Message.{nothing, answer, save, restore}
use Rattle.record_law.specs.Protocol.{Follows}
use Rattle.record_law.specs.Shape.{works}
use Rattle.record_law.specs.Task.{Task}
use Rattle.record_law.specs.Task.Task.{one, attempts, serving, local_jobs}
use Rattle.record_law.specs.Worker.{work_on, answering}
use Rattle.record_terms.specs.declared.message.Message.{Message}
use Rattle.worker_order.specs.declared.worker_stage.AfterWork.{AfterWork}
use Rattle.worker_order.specs.declared.worker_stage.AfterWork.TheVariants.{Serve, Restored}
use Rattle.worker_order.specs.declared.worker_stage.RestoreStage.{RestoreStage}
use Rattle.worker_order.specs.declared.worker_stage.RestoreStage.TheVariants.{Asked, Trying, Ended}
use Rattle.worker_order.specs.declared.worker_stage.WorkStage.{WorkStage}
use Rattle.worker_order.specs.declared.worker_stage.WorkStage.TheVariants.{Taken, Attempting}
use Rattle.worker_order.specs.declared.worker_stage.WorkerStage.{WorkerStage}
use Rattle.worker_order.specs.declared.worker_stage.WorkerStage.TheVariants.{Serving, Working, SaveAsked, Saving, Restoring, Answering, Stopped}
use Rattle.worker_order.specs.declared.worker_stage.WorkerStep.{WorkerStep}
use Rattle.record_terms.specs.Message.{meaning_of}
use Rattle.order_base.specs.There.{IsThere}

-- of the work on a job
abbrev pub work_left : (worker inst : ℕ) → WorkStage → List Task
work_left worker inst Taken = work_on worker inst
work_left worker inst (Attempting most) =
    attempts (actor.Worker worker) (ring.Responses inst) most ∷ one (end_of (actor.Worker worker) call.Work inst) nothing ∷ []

-- an answer, and whatever control asks then
abbrev pub answer_left : ℕ → Message → List Task
answer_left worker message = answering worker (meaning_of message) ++ serving worker ∷ []

-- the jobs that a restore scheduled, and its answer
abbrev pub locals_left : (worker action inst : ℕ) → List Task
locals_left worker action inst = local_jobs worker inst ∷ (answering worker (answer action) ++ serving worker ∷ [])

-- what comes after the work on a job
abbrev pub after_left : (worker inst : ℕ) → AfterWork → List Task
after_left worker inst Serve = serving worker ∷ []
after_left worker inst (Restored action) = locals_left worker action inst

-- of a thread-safe restore
abbrev pub restore_left : Shape → (worker action inst : ℕ) → RestoreStage → List Task
restore_left s worker action inst Asked =
    one (begin_of (actor.Worker worker) call.RestoreSafe inst) (restore action inst)
    ∷ attempts (actor.Worker worker) (ring.LocalJobs inst) (at_most (works s inst))
    ∷ one (end_of (actor.Worker worker) call.RestoreSafe inst) nothing
    ∷ locals_left worker action inst
restore_left s worker action inst (Trying most) =
    attempts (actor.Worker worker) (ring.LocalJobs inst) most ∷ one (end_of (actor.Worker worker) call.RestoreSafe inst) nothing ∷ locals_left worker action inst
restore_left s worker action inst Ended = locals_left worker action inst

abbrev pub worker_left : Shape → ℕ → WorkerStage → List Task
worker_left s worker Serving = serving worker ∷ []
worker_left s worker (Working inst work after) = work_left worker inst work ++ after_left worker inst after
worker_left s worker (SaveAsked action inst) =
    one (begin_of (actor.Worker worker) call.Save inst) (save action inst)
    ∷ one (end_of (actor.Worker worker) call.Save inst) nothing
    ∷ (answering worker (answer action) ++ serving worker ∷ [])
worker_left s worker (Saving action inst) = one (end_of (actor.Worker worker) call.Save inst) nothing ∷ (answering worker (answer action) ++ serving worker ∷ [])
worker_left s worker (Restoring action inst stage) = restore_left s worker action inst stage
worker_left s worker (Answering message) = answer_left worker message
worker_left s worker Stopped = []

-- what an entry is about, and the tasks that it leaves, where the worker goes on to a stage
abbrev pub worker_follows : Shape → ℕ → Option WorkerStep → Option Follows
worker_follows s worker None = None
worker_follows s worker (Some step) = Some (record { about = meaning_of step.about; left = worker_left s worker step.stage })

-- an answer where the entry is the one that is wanted
abbrev pub worker_goes : Bool → Message → WorkerStage → Option WorkerStep
worker_goes true about stage = Some (record { about = about; stage = stage })
worker_goes false about stage = None

-- ---- stages of a session

abbrev pub IsWorkerStage : Shape → WorkerStage → Type 0
IsWorkerStage s Serving = Unit {0}
IsWorkerStage s (Working inst work after) = inst < length s.insts
IsWorkerStage s (SaveAsked action inst) = inst < length s.insts
IsWorkerStage s (Saving action inst) = inst < length s.insts
IsWorkerStage s (Restoring action inst stage) = inst < length s.insts
IsWorkerStage s (Answering message) = IsThere s message
IsWorkerStage s Stopped = Unit {0}
