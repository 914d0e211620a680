-- The record of a run on one thread.
use Rattle.std.specs.Prelude.{◌≡◌, ◌+◌, ◌==◌, Bool, true, not, ◌&&◌, ◌||◌, List, [], ◌∷◌, ◌++◌}
use Rattle.step_law.specs.declared.actor.Actor.TheVariants.{Control}
use Rattle.step_law.specs.declared.entry.Entry.{Entry}
use Rattle.step_law.specs.declared.ring.Ring.TheVariants.{ControlToAudio, AudioToControl}
use Rattle.step_law.specs.Entry.{take_of, send_of, beat_of}
use Rattle.record_law.specs.Entries.{is_by, same_entry}
use Rattle.session_play.specs.Judging.{KeepsRules}
use Rattle.session_play.specs.Looking.{steps_of}
use Rattle.session_play.specs.Playing.{play_of, then_played}
use Rattle.session_play.specs.Rules.{judging, IsLawfulRecord}
use Rattle.session_play.specs.Run.{Run}
use Rattle.session_play.specs.SessionShape.{shape_of}
use Rattle.session_play.specs.Value.{Play}
use Rattle.one_thread.specs.Turns.{sees_all, may_come, turn}

-- an entry is this one, or this one may not come
abbrev pub yields_to : {F B : Type 0} → Run F B → Play F B → (first : Entry) → Entry → Bool
yields_to run p first e = same_entry first e || not (may_come run p first)

-- control takes what audio sent before all else
abbrev pub takes_first : {F B : Type 0} → Run F B → Play F B → Entry → Bool
takes_first run p e = not (is_by Control e) || yields_to run p (take_of Control AudioToControl) e

-- and it sends audio what it can before it sees that audio has stopped
abbrev pub sends_first : {F B : Type 0} → Run F B → Play F B → Entry → Bool
sends_first run p e = not (same_entry (beat_of (run.setup.session.blocks + 1)) e) || yields_to run p (send_of Control ControlToAudio) e

-- an entry comes after a play where one thread does all
abbrev pub comes_next : {F B : Type 0} → Run F B → Play F B → Entry → Bool
comes_next run p e =
    sees_all (shape_of run.setup) (steps_of p) e.kind e.a e.b && (e.actor == turn run p) && takes_first run p e && sends_first run p e

-- each entry comes in its turn
abbrev pub ComeInTurn : {F B : Type 0} → Run F B → List Entry → Type 0
ComeInTurn run steps = (before later : List Entry) (e : Entry) → steps ≡ before ++ e ∷ later → comes_next run (play_of run before) e ≡ true

-- the record of one thread: it is lawful with its values, and each entry comes in its turn
pub record IsOneThread {F B : Type 0} (run : Run F B) (steps : List Entry) : Type 0 where
  pub lawful : IsLawfulRecord run steps
  pub turns : ComeInTurn run steps

-- what one thread has recorded before the end
pub record BeginsOneThread {F B : Type 0} (run : Run F B) (steps : List Entry) : Type 0 where
  pub keeps_rules : KeepsRules (judging run) steps
  pub turns : ComeInTurn run steps

-- the turns as a function, after a play
abbrev pub all_come : {F B : Type 0} → Run F B → Play F B → List Entry → Bool
all_come run p [] = true
all_come run p (e ∷ later) = comes_next run p e && all_come run (then_played run p e) later
