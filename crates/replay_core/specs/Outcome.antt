-- What a whole run gives.
use Rattle.std.specs.Prelude.{◌≡◌}
use Rattle.session_script.specs.declared.session.Session.{Session}
use Rattle.replay_core.specs.declared.outcome.Outcome.{Outcome}
use Rattle.replay_core.specs.PlainRecord.{record_of}
use Rattle.replay_core.specs.Play.{Meaning, sound_of}
use Rattle.replay_core.specs.Summary.{summary_of}

-- the one-thread record of the session, and what is heard and counted in the play of that record
pub record IsOutcome {F : Type 0} (code : Meaning F) (s : Session) (outcome : Outcome) : Type 0 where
  pub steps : outcome.steps ≡ record_of s
  pub pcm : outcome.pcm ≡ sound_of code s outcome.steps
  pub summary : outcome.summary ≡ summary_of s outcome.steps
