-- How an entry moves the tracker of a worker.
use Rattle.std.proofs.Common.{◌≡◌, ◌<◌, Bool, List, ◌∷◌, ◌&&◌, ◌||◌, length, Some, ap, sym, ◌∙◌}
use Rattle.step_law.specs.declared.actor.Actor.TheVariants.{Worker}
use Rattle.step_law.specs.declared.entry.Entry.{Entry}
use Rattle.step_law.specs.declared.entry.Kind.TheVariants.{Take}
use Rattle.step_law.specs.declared.ring.Ring.TheVariants.{ControlToWorker}
use Rattle.record_law.specs.declared.shape.Shape.{Shape}
use Rattle.record_law.specs.Entries.{is_on}
use Rattle.record_law.specs.Message.{Message as Meant, History}
use Rattle.record_law.specs.Protocol.{follow, left_after}
use Rattle.record_law.specs.Worker.{is_close}
use Rattle.record_terms.specs.declared.message.Message.{Message}
use Rattle.worker_order.specs.declared.worker_stage.LocalCount.{LocalCount}
use Rattle.worker_order.specs.declared.worker_stage.WorkerStep.{WorkerStep}
use Rattle.worker_order.specs.declared.worker_tracker.WorkerTracker.{WorkerTracker}
use Rattle.worker_order.specs.Backs.{AreBacks}
use Rattle.worker_order.specs.Locals.{AreLocals, most_counted}
use Rattle.record_terms.specs.Message.{meaning_of}
use Rattle.order_base.specs.Answer.{step_of, follows_as}
use Rattle.worker_order.specs.TrackedWorker.{WorkerStands, WorkerNext, WorkerGoes}
use Rattle.worker_order.specs.Worker.{worker_left}
use Rattle.order_base.proofs.OwnSteps.{goes_on}

pub worker_moves : (s : Shape) (before : WorkerTracker) (backs : List Bool) (locals : List LocalCount) (closed : Bool) (brought : Message) (e : Entry) (step : WorkerStep)
    → WorkerNext s before brought e (Some step)
    → ((h : History) → AreBacks before.worker before.backs h → AreBacks before.worker backs (step_of e step.about ∷ h))
    → ((h : History) (about : Meant) → AreLocals before.locals h → AreLocals locals (record { entry = e; about = about } ∷ h))
    → closed ≡ (is_on Take (ControlToWorker before.worker) e && is_close (meaning_of step.about) || before.closed)
    → WorkerGoes s before (record { worker = before.worker; stage = step.stage; backs = backs; locals = locals; closed = closed }) brought e (Some step.about)
worker_moves s before backs locals closed brought e step next backs_noted locals_noted closes =
    let left = worker_left s before.worker step.stage in
    let follows : (h : History) → length h < most_counted → WorkerStands s before h
    → follow s h (meaning_of brought) (left_after s (Worker before.worker) h) e ≡ follows_as left (Some step.about) =
    λ h short stands. ap (λ tasks. follow s h (meaning_of brought) tasks e) stands.left ∙ next h short stands.knows in
    record {
      follows = follows;
      stands = λ h short stands. record {
        left = goes_on s (Worker before.worker) h e (meaning_of brought) (meaning_of step.about) left (follows h short stands);
        knows = record {
          backs = backs_noted h stands.knows.backs;
          locals = locals_noted h (meaning_of step.about) stands.knows.locals;
          closed = ap (λ b. is_on Take (ControlToWorker before.worker) e && is_close (meaning_of step.about) || b) stands.knows.closed ∙ sym closes;
        };
      };
      stays = tt;
    }
