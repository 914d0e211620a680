-- How an entry moves the tracker of control.
use Rattle.std.proofs.Common.{◌≡◌, ℕ, ◌∷◌, Option, Some, ap, ◌∙◌}
use Rattle.step_law.specs.declared.actor.Actor.TheVariants.{Control}
use Rattle.step_law.specs.declared.entry.Entry.{Entry}
use Rattle.record_law.specs.declared.shape.Shape.{Shape}
use Rattle.record_law.specs.Message.{Message as Meant, History}
use Rattle.record_law.specs.Protocol.{follow, left_after}
use Rattle.control_order.specs.declared.control_stage.ControlStep.{ControlStep}
use Rattle.control_order.specs.declared.control_tracker.ControlTracker.{ControlTracker}
use Rattle.record_terms.specs.declared.message.Message.{Message}
use Rattle.control_order.specs.Control.{control_left}
use Rattle.record_terms.specs.Message.{meaning_of}
use Rattle.control_order.specs.Progress.{IsProgress}
use Rattle.order_base.specs.Answer.{follows_as}
use Rattle.control_order.specs.TrackedControl.{ControlStands, ControlNext, ControlGoes}
use Rattle.order_base.proofs.OwnSteps.{goes_on}

pub control_moves : (s : Shape) (before : ControlTracker) (progress : Option ℕ) (brought : Message) (e : Entry) (step : ControlStep)
    → ControlNext s before brought e (Some step)
    → ((h : History) (about : Meant) → IsProgress before.progress h → IsProgress progress (record { entry = e; about = about } ∷ h))
    → ControlGoes s before (record { stage = step.stage; progress = progress }) brought e (Some step.about)
control_moves s before progress brought e step next noted =
    let left = control_left s step.stage in
    let follows : (h : History) → ControlStands s before h → follow s h (meaning_of brought) (left_after s Control h) e ≡ follows_as left (Some step.about) =
    λ h stands. ap (λ tasks. follow s h (meaning_of brought) tasks e) stands.left ∙ next h stands.progress in
    record {
      follows = follows;
      stands = λ h stands. record {
        left = goes_on s Control h e (meaning_of brought) (meaning_of step.about) left (follows h stands);
        progress = noted h (meaning_of step.about) stands.progress;
      };
      stays = tt;
    }
