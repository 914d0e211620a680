-- How far the turns of one thread determine its record.
use Rattle.std.specs.Prelude.{◌≡◌, ◌⊎◌, ℕ, ◌+◌, true, List, ◌∷◌, ◌++◌, is_some}
use Rattle.step_law.specs.declared.actor.Actor.{Actor}
use Rattle.step_law.specs.declared.actor.Actor.TheVariants.{Control}
use Rattle.step_law.specs.declared.entry.Entry.{Entry}
use Rattle.step_law.specs.declared.ring.Ring.{Ring}
use Rattle.step_law.specs.declared.ring.Ring.TheVariants.{ControlToAudio, AudioToControl}
use Rattle.step_law.specs.Entry.{look_of, take_of, send_of, full_of, beat_of}
use Rattle.record_law.specs.Entries.{is_by}
use Rattle.record_law.specs.History.{own}
use Rattle.record_law.specs.Message.{Message}
use Rattle.record_law.specs.Protocol.{follow}
use Rattle.record_law.specs.Task.{Due, Task}
use Rattle.record_law.specs.Task.Task.{acting}
use Rattle.session_play.specs.Looking.{steps_of}
use Rattle.session_play.specs.Playing.{play_of}
use Rattle.session_play.specs.SessionShape.{shape_of}
use Rattle.session_play.specs.Run.{Run}
use Rattle.session_play.specs.Value.{Play}
use Rattle.one_thread.specs.Turns.{may_come, turn}
use Rattle.one_thread.specs.OneThread.{IsOneThread, comes_next}

-- two records begin alike, and then each goes on with another entry of the actor whose turn it is
pub record PartAtATurn {F B : Type 0} (run : Run F B) (steps also : List Entry) : Type 0 where
  pub before : List Entry
  pub here : Entry
  pub there : Entry
  pub later : List Entry
  pub other : List Entry
  pub first : steps ≡ before ++ here ∷ later
  pub second : also ≡ before ++ there ∷ other
  pub differ : here ≡ there → ⊥
  pub first_turn : here.actor ≡ turn run (play_of run before)
  pub second_turn : there.actor ≡ turn run (play_of run before)

-- two records of one thread are the same, or part at a turn
abbrev pub ArePartedByTurn : Type 0 → Type 0 → Type 0
ArePartedByTurn F B = (run : Run F B) (steps also : List Entry) → IsOneThread run steps → IsOneThread run also
    → (steps ≡ also) ⊎ PartAtATurn run steps also

-- ---- what may come next after one play

-- a look at a ring shows one number
abbrev pub LooksAreOne : Type 0 → Type 0 → Type 0
LooksAreOne F B = (run : Run F B) (p : Play F B) (actor : Actor) (ring : Ring) (shown also : ℕ)
    → comes_next run p (look_of actor ring shown) ≡ true → comes_next run p (look_of actor ring also) ≡ true → shown ≡ also

-- control sees one progress
abbrev pub BeatsAreOne : Type 0 → Type 0 → Type 0
BeatsAreOne F B = (run : Run F B) (p : Play F B) (progress also : ℕ)
    → comes_next run p (beat_of progress) ≡ true → comes_next run p (beat_of also) ≡ true → progress ≡ also

-- a ring takes a message or is full, and not both
abbrev pub SendsAreNotRefused : Type 0 → Type 0 → Type 0
SendsAreNotRefused F B = (run : Run F B) (p : Play F B) (actor : Actor) (ring : Ring)
    → comes_next run p (send_of actor ring) ≡ true → comes_next run p (full_of actor ring) ≡ true → ⊥

-- where control can take what audio sent, it does so next
abbrev pub TakesAreFirst : Type 0 → Type 0 → Type 0
TakesAreFirst F B = (run : Run F B) (p : Play F B) (e : Entry) → may_come run p (take_of Control AudioToControl) ≡ true
    → comes_next run p e ≡ true → is_by Control e ≡ true → e ≡ take_of Control AudioToControl

-- where it can send to audio, it doesn't see next that audio has stopped
abbrev pub SendsAreFirst : Type 0 → Type 0 → Type 0
SendsAreFirst F B = (run : Run F B) (p : Play F B) → may_come run p (send_of Control ControlToAudio) ≡ true
    → comes_next run p (beat_of (run.setup.session.blocks + 1)) ≡ true → ⊥

-- while control acts, its tasks let one entry come next
abbrev pub ActsAreOne : Type 0 → Type 0 → Type 0
ActsAreOne F B = (run : Run F B) (p : Play F B) (taken also : Message) (stages : List Due) (rest : List Task) (e f : Entry)
    → is_some (follow (shape_of run.setup) (own Control (steps_of p)) taken (acting stages ∷ rest) e) ≡ true
    → is_some (follow (shape_of run.setup) (own Control (steps_of p)) also (acting stages ∷ rest) f) ≡ true
    → may_come run p e ≡ true → may_come run p f ≡ true → comes_next run p e ≡ true → comes_next run p f ≡ true
    → is_by Control e ≡ true → is_by Control f ≡ true → e ≡ f
