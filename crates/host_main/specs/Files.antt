-- The three files of a run: what they hold, and what is left where a write failed.
use Rattle.std.specs.Prelude.{◌≡◌, ◌≢◌, ℕ, List, Option, Some}
use Rattle.step_law.specs.declared.entry.Entry.{Entry}
use Rattle.step_record.specs.RecordText.{record_text}
use Rattle.replay_core.specs.StateText.{state_text}
use Rattle.host_main.specs.Status.{name_of}
use Rattle.host_main.specs.declared.files.Rendering.{Rendering}
use Rattle.host_main.specs.declared.refusal.Target.{Target}
use Rattle.host_main.specs.declared.refusal.Target.TheVariants.{Record, Sound, State, Summary}

-- what a run with this record, sound and summary writes under a name
abbrev pub rendering : List ℕ → List Entry → List ℕ → List ℕ → Rendering
rendering name steps sound summary =
    record {
      steps = record { path = name_of Record name; bytes = record_text steps };
      sound = record { path = name_of Sound name; bytes = sound };
      state = record { path = name_of State name; bytes = state_text };
      summary = summary;
    }

-- the summary is put on the sink, and is no file
abbrev pub IsFile : Target → Type 0
IsFile Summary = ⊥
IsFile target = Unit {0}

-- three paths, each its own
pub record AreApart (w : Rendering) : Type 0 where
  pub steps_sound : w.steps.path ≢ w.sound.path
  pub steps_state : w.steps.path ≢ w.state.path
  pub sound_state : w.sound.path ≢ w.state.path

-- the three files stand, and every other file is as before
pub record HoldsAll (w : Rendering) (old new : List ℕ → Option (List ℕ)) : Type 0 where
  pub steps : new w.steps.path ≡ Some w.steps.bytes
  pub sound : new w.sound.path ≡ Some w.sound.bytes
  pub state : new w.state.path ≡ Some w.state.bytes
  pub others : (q : List ℕ) → q ≢ w.steps.path → q ≢ w.sound.path → q ≢ w.state.path → new q ≡ old q

-- What is left where a write failed: what stands before it holds what it should, and what stands after it is as before.
abbrev pub HoldsBefore : Target → Rendering → (List ℕ → Option (List ℕ)) → (List ℕ → Option (List ℕ)) → Type 0
HoldsBefore Record w old new = (q : List ℕ) → q ≢ w.steps.path → new q ≡ old q
HoldsBefore Sound w old new =
    (new w.steps.path ≡ Some w.steps.bytes)
    × ((q : List ℕ) → q ≢ w.steps.path → q ≢ w.sound.path → new q ≡ old q)
HoldsBefore State w old new =
    (new w.steps.path ≡ Some w.steps.bytes)
    × (new w.sound.path ≡ Some w.sound.bytes)
    × ((q : List ℕ) → q ≢ w.steps.path → q ≢ w.sound.path → q ≢ w.state.path → new q ≡ old q)
HoldsBefore Summary w old new = HoldsAll w old new
