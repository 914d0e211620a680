-- What a tracker of control says of control's own steps, and how an entry moves it.
use Rattle.std.specs.Prelude.{◌≡◌, ◌∷◌, Option, IfSome, IfNone}
use Rattle.step_law.specs.declared.actor.Actor.TheVariants.{Control}
use Rattle.step_law.specs.declared.entry.Entry.{Entry}
use Rattle.record_law.specs.declared.shape.Shape.{Shape}
use Rattle.record_law.specs.Message.{History}
use Rattle.record_law.specs.Protocol.{follow, left_after}
use Rattle.control_order.specs.declared.control_stage.ControlStep.{ControlStep}
use Rattle.control_order.specs.declared.control_tracker.ControlTracker.{ControlTracker}
use Rattle.record_terms.specs.declared.message.Message.{Message}
use Rattle.control_order.specs.Control.{control_left, control_follows, IsControlStage}
use Rattle.record_terms.specs.Message.{meaning_of}
use Rattle.control_order.specs.Progress.{IsProgress}
use Rattle.order_base.specs.There.{IsThere}
use Rattle.order_base.specs.Answer.{follows_as, step_of}

-- a tracker of a session
abbrev pub IsControl : Shape → ControlTracker → Type 0
IsControl s tracker = IsControlStage s tracker.stage

-- it stands for control's own steps
pub record ControlStands (s : Shape) (tracker : ControlTracker) (h : History) : Type 0 where
  pub left : left_after s Control h ≡ control_left s tracker.stage
  pub progress : IsProgress tracker.progress h

-- an answer says what an entry makes of control's stage, after each history that has seen the progress
abbrev pub ControlNext : Shape → ControlTracker → Message → Entry → Option ControlStep → Type 0
ControlNext s tracker brought e answer =
    (h : History) → IsProgress tracker.progress h → follow s h (meaning_of brought) (control_left s tracker.stage) e ≡ control_follows s answer

-- it names what is there, and goes on to a stage of the session
abbrev pub IsControlStep : Shape → ControlStep → Type 0
IsControlStep s step = IsThere s step.about × IsControlStage s step.stage

-- an answer says what an entry is by control's tasks, and the tracker stands for control's steps as before
pub record ControlGoes (s : Shape) (before after : ControlTracker) (brought : Message) (e : Entry) (answer : Option Message) : Type 0 where
  pub follows : (h : History) → ControlStands s before h
      → follow s h (meaning_of brought) (left_after s Control h) e ≡ follows_as (control_left s after.stage) answer
  pub stands : IfSome answer (λ about. (h : History) → ControlStands s before h → ControlStands s after (step_of e about ∷ h))
  pub stays : IfNone answer (after ≡ before)
