-- What audio judges an entry by, and its answers.
use Rattle.std.specs.Prelude.{◌≡◌, List, length, Option}
use Rattle.record_law.specs.Message.{History}
use Rattle.record_law.specs.Protocol.{follow}
use Rattle.record_law.specs.Task.{Task}
use Rattle.audio_order.specs.declared.audio.AudioView.{AudioView}
use Rattle.audio_order.specs.declared.audio_stage.AudioStage.{AudioStage}
use Rattle.audio_order.specs.declared.audio_stage.AudioStep.{AudioStep}
use Rattle.audio_order.specs.Audio.{audio_left, audio_follows, IsStage}
use Rattle.audio_order.specs.Fronts.{AreFronts}
use Rattle.order_base.specs.Limits.{KeepsLimits}
use Rattle.record_terms.specs.Message.{meaning_of}
use Rattle.order_base.specs.There.{IsThere}

-- the session keeps its limits, each instance has its front in the table, and what a take brings names what is there
pub record IsView (view : AudioView) : Type 0 where
  pub limits : KeepsLimits view.shape.now
  pub count : length view.fronts.now ≡ length view.shape.now.insts
  pub brought : IsThere view.shape.now view.brought

-- an answer is what the entry makes of tasks, after each history of audio's that leaves the fronts so
abbrev pub Judges : AudioView → List Task → Option AudioStep → Type 0
Judges view tasks answer =
    (h : History) → AreFronts view.fronts.now h → follow view.shape.now h (meaning_of view.brought) tasks view.entry ≡ audio_follows view.shape.now answer

abbrev pub AtStage : AudioView → AudioStage → Option AudioStep → Type 0
AtStage view stage answer = Judges view (audio_left view.shape.now stage) answer

-- an answer names what is there, and goes on to a stage of the session
abbrev pub IsStep : AudioView → AudioStep → Type 0
IsStep view step = IsThere view.shape.now step.about × IsStage view.shape.now step.stage
