-- What a tracker of an actor says of the actor's own steps, and how an entry moves it.
use Rattle.std.specs.Prelude.{◌≡◌, ◌∷◌, length, Option, IfSome, IfNone}
use Rattle.step_law.specs.declared.actor.Actor.TheVariants.{Audio}
use Rattle.step_law.specs.declared.entry.Entry.{Entry}
use Rattle.record_law.specs.declared.shape.Shape.{Shape}
use Rattle.record_law.specs.Message.{History}
use Rattle.record_law.specs.Protocol.{follow, left_after}
use Rattle.audio_order.specs.declared.audio_tracker.AudioTracker.{AudioTracker}
use Rattle.record_terms.specs.declared.message.Message.{Message}
use Rattle.audio_order.specs.declared.audio_stage.AudioStep.{AudioStep}
use Rattle.order_base.specs.Answer.{follows_as, step_of}
use Rattle.audio_order.specs.Audio.{audio_left, audio_follows, IsStage}
use Rattle.audio_order.specs.Fronts.{AreFronts}
use Rattle.record_terms.specs.Message.{meaning_of}
use Rattle.order_base.specs.There.{IsThere}

-- a tracker of a session
pub record IsAudio (s : Shape) (tracker : AudioTracker) : Type 0 where
  pub stage : IsStage s tracker.stage
  pub count : length tracker.fronts ≡ length s.insts

-- it stands for audio's own steps
pub record AudioStands (s : Shape) (tracker : AudioTracker) (h : History) : Type 0 where
  pub left : left_after s Audio h ≡ audio_left s tracker.stage
  pub fronts : AreFronts tracker.fronts h

-- an answer says what an entry makes of audio's stage, after each history that leaves the fronts so
abbrev pub AudioNext : Shape → AudioTracker → Message → Entry → Option AudioStep → Type 0
AudioNext s tracker brought e answer =
    (h : History) → AreFronts tracker.fronts h → follow s h (meaning_of brought) (audio_left s tracker.stage) e ≡ audio_follows s answer

-- it names what is there, and goes on to a stage of the session
abbrev pub IsAudioStep : Shape → AudioStep → Type 0
IsAudioStep s step = IsThere s step.about × IsStage s step.stage

-- an answer says what an entry is by audio's tasks, and the tracker stands for audio's steps as before
pub record AudioGoes (s : Shape) (before after : AudioTracker) (brought : Message) (e : Entry) (answer : Option Message) : Type 0 where
  pub follows : (h : History) → AudioStands s before h → follow s h (meaning_of brought) (left_after s Audio h) e ≡ follows_as (audio_left s after.stage) answer
  pub stands : IfSome answer (λ about. (h : History) → AudioStands s before h → AudioStands s after (step_of e about ∷ h))
  pub stays : IfNone answer (after ≡ before)
