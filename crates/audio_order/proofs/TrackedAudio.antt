-- How an entry moves the tracker of audio.
use Rattle.std.proofs.Common.{◌≡◌, List, ◌∷◌, Some, ap, ◌∙◌}
use Rattle.step_law.specs.declared.actor.Actor.TheVariants.{Audio}
use Rattle.step_law.specs.declared.entry.Entry.{Entry}
use Rattle.record_law.specs.declared.shape.Shape.{Shape}
use Rattle.record_law.specs.Message.{History}
use Rattle.record_law.specs.Protocol.{follow, left_after}
use Rattle.audio_order.specs.declared.audio_stage.AudioStep.{AudioStep}
use Rattle.audio_order.specs.declared.audio_tracker.AudioTracker.{AudioTracker}
use Rattle.audio_order.specs.declared.fronts.Place.{Place}
use Rattle.record_terms.specs.declared.message.Message.{Message}
use Rattle.audio_order.specs.Audio.{audio_left}
use Rattle.audio_order.specs.Fronts.{AreFronts}
use Rattle.record_terms.specs.Message.{meaning_of}
use Rattle.order_base.specs.Answer.{step_of, follows_as}
use Rattle.audio_order.specs.Tracked.{AudioStands, AudioNext, AudioGoes}
use Rattle.order_base.proofs.OwnSteps.{goes_on}

pub audio_moves : (s : Shape) (before : AudioTracker) (fronts : List Place) (brought : Message) (e : Entry) (step : AudioStep)
    → AudioNext s before brought e (Some step)
    → ((h : History) → AreFronts before.fronts h → AreFronts fronts (step_of e step.about ∷ h))
    → AudioGoes s before (record { stage = step.stage; fronts = fronts }) brought e (Some step.about)
audio_moves s before fronts brought e step next noted =
    let left = audio_left s step.stage in
    let follows : (h : History) → AudioStands s before h → follow s h (meaning_of brought) (left_after s Audio h) e ≡ follows_as left (Some step.about) =
    λ h stands. ap (λ tasks. follow s h (meaning_of brought) tasks e) stands.left ∙ next h stands.fronts in
    record {
      follows = follows;
      stands = λ h stands. record {
        left = goes_on s Audio h e (meaning_of brought) (meaning_of step.about) left (follows h stands);
        fronts = noted h stands.fronts;
      };
      stays = tt;
    }
