-- What a tracker of a worker says of the worker's own steps, and how an entry moves it.
use Rattle.std.specs.Prelude.{◌≡◌, ◌<◌, ◌≤◌, ◌∷◌, length, Option, IfSome, IfNone}
use Rattle.step_law.specs.declared.actor.Actor.TheVariants.{Worker}
use Rattle.step_law.specs.declared.entry.Entry.{Entry}
use Rattle.record_law.specs.declared.shape.Shape.{Shape}
use Rattle.record_law.specs.Message.{History}
use Rattle.record_law.specs.Protocol.{follow, left_after}
use Rattle.record_law.specs.Worker.{was_closed}
use Rattle.record_terms.specs.declared.message.Message.{Message}
use Rattle.worker_order.specs.declared.worker_stage.WorkerStep.{WorkerStep}
use Rattle.worker_order.specs.declared.worker_tracker.WorkerTracker.{WorkerTracker}
use Rattle.worker_order.specs.Backs.{AreBacks}
use Rattle.worker_order.specs.Locals.{AreLocals, most_counted}
use Rattle.record_terms.specs.Message.{meaning_of}
use Rattle.order_base.specs.There.{IsThere}
use Rattle.order_base.specs.Answer.{follows_as, step_of}
use Rattle.worker_order.specs.Worker.{worker_left, worker_follows, IsWorkerStage}

-- a tracker of a session
pub record IsWorker (s : Shape) (tracker : WorkerTracker) : Type 0 where
  pub worker : tracker.worker ≤ 8
  pub stage : IsWorkerStage s tracker.stage
  pub backs : length tracker.backs ≡ length s.insts
  pub locals : length tracker.locals ≡ length s.insts

-- what it knows is so after the worker's own steps
pub record WorkerKnows (tracker : WorkerTracker) (h : History) : Type 0 where
  pub backs : AreBacks tracker.worker tracker.backs h
  pub locals : AreLocals tracker.locals h
  pub closed : was_closed tracker.worker h ≡ tracker.closed

-- it stands for the worker's own steps
pub record WorkerStands (s : Shape) (tracker : WorkerTracker) (h : History) : Type 0 where
  pub left : left_after s (Worker tracker.worker) h ≡ worker_left s tracker.worker tracker.stage
  pub knows : WorkerKnows tracker h

-- an answer says what an entry makes of the worker's stage, after each history in which it knows what is so, of few enough steps
abbrev pub WorkerNext : Shape → WorkerTracker → Message → Entry → Option WorkerStep → Type 0
WorkerNext s tracker brought e answer =
    (h : History) → length h < most_counted → WorkerKnows tracker h
    → follow s h (meaning_of brought) (worker_left s tracker.worker tracker.stage) e ≡ worker_follows s tracker.worker answer

-- it names what is there, and goes on to a stage of the session
abbrev pub IsWorkerStep : Shape → WorkerStep → Type 0
IsWorkerStep s step = IsThere s step.about × IsWorkerStage s step.stage

-- an answer says what an entry is by the worker's tasks, and the tracker stands for the worker's steps as before
pub record WorkerGoes (s : Shape) (before after : WorkerTracker) (brought : Message) (e : Entry) (answer : Option Message) : Type 0 where
  pub follows : (h : History) → length h < most_counted → WorkerStands s before h
      → follow s h (meaning_of brought) (left_after s (Worker before.worker) h) e ≡ follows_as (worker_left s after.worker after.stage) answer
  pub stands : IfSome answer (λ about. (h : History) → length h < most_counted → WorkerStands s before h → WorkerStands s after (step_of e about ∷ h))
  pub stays : IfNone answer (after ≡ before)
