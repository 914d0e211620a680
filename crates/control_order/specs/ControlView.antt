-- What control judges an entry by, and its answers.
use Rattle.std.specs.Prelude.{◌≡◌, ℕ, ◌<◌, ◌≤◌, nat_le, Bool, false, ◌&&◌, List, [], Option, None}
use Rattle.step_law.specs.declared.actor.Actor.TheVariants.{Control}
use Rattle.step_law.specs.declared.ring.Ring.TheVariants.{WorkerToControl}
use Rattle.step_law.specs.Entry.{beat_of, take_of}
use Rattle.record_law.specs.Entries.{same_entry}
use Rattle.record_law.specs.Control.{act, ends}
use Rattle.record_law.specs.Message.{History}
use Rattle.record_law.specs.Protocol.{follow, then_left}
use Rattle.record_law.specs.Task.{Due, Task}
use Rattle.control_order.specs.declared.control.ControlView.{ControlView}
use Rattle.control_order.specs.declared.control_stage.ControlStage.{ControlStage}
use Rattle.control_order.specs.declared.control_stage.ControlStep.{ControlStep}
use Rattle.control_order.specs.Control.{control_left, control_follows, taking_left, IsControlStage}
use Rattle.order_base.specs.Limits.{KeepsLimits}
use Rattle.record_terms.specs.Message.{meaning_of}
use Rattle.control_order.specs.Progress.{IsProgress}
use Rattle.order_base.specs.There.{IsThere}

-- the session keeps its limits, and what a take brings names what is there
pub record IsView (view : ControlView) : Type 0 where
  pub limits : KeepsLimits view.shape.now
  pub brought : IsThere view.shape.now view.brought

-- an answer is what the entry makes of tasks, after each history of control's that has seen the progress
abbrev pub Judges : ControlView → List Task → Option ControlStep → Type 0
Judges view tasks answer =
    (h : History) → IsProgress view.progress h → follow view.shape.now h (meaning_of view.brought) tasks view.entry ≡ control_follows view.shape.now answer

abbrev pub AtStage : ControlView → ControlStage → Option ControlStep → Type 0
AtStage view stage answer = Judges view (control_left view.shape.now stage) answer

-- an answer is what an entry that takes nothing from audio makes of the stages of actions
abbrev pub Acts : ControlView → List Due → Option ControlStep → Type 0
Acts view stages answer =
    (h : History) → IsProgress view.progress h
    → then_left (act view.shape.now h (meaning_of view.brought) stages view.entry) [] None ≡ control_follows view.shape.now answer

-- an answer is what the entry makes of the end of the actions
abbrev pub Ends : ControlView → ℕ → Option ControlStep → Type 0
Ends view unfinished answer = then_left (ends view.shape.now unfinished view.entry) [] None ≡ control_follows view.shape.now answer

-- the entry sees that a block is reached, and that audio hasn't stopped
abbrev pub sees_block : ControlView → ℕ → Bool
sees_block view block = same_entry (beat_of view.entry.a) view.entry && nat_le block view.entry.a && nat_le view.entry.a view.shape.now.blocks

-- an answer is what the entry makes of what is left in the rings of the workers from one on, and then of the actions from the k-th on
abbrev pub TakesLeft : ControlView → (k worker : ℕ) → Option ControlStep → Type 0
TakesLeft view k worker answer = Judges view (taking_left view.shape.now k (WorkerToControl worker)) answer

-- the entry takes from no ring of these workers
abbrev pub TakesNone : ControlView → (first end : ℕ) → Type 0
TakesNone view first end = (worker : ℕ) → first ≤ worker → worker < end → same_entry (take_of Control (WorkerToControl worker)) view.entry ≡ false

-- an answer names what is there, and goes on to a stage of the session
abbrev pub IsStep : ControlView → ControlStep → Type 0
IsStep view step = IsThere view.shape.now step.about × IsControlStage view.shape.now step.stage
