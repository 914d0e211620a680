-- A run under way.
use Rattle.std.specs.Prelude.{◌≡◌, ℕ, List, ◌++◌, length, map, take}
use Rattle.session_script.specs.declared.session.Session.{Session}
use Rattle.step_law.specs.declared.entry.Entry.{Entry}
use Rattle.replay_core.specs.declared.run.Run.{Run}
use Rattle.replay_core.specs.Signals.{uris_of}
use Rattle.replay_core.specs.Play.{Meaning, Moment, played_from}
use Rattle.replay_core.specs.Desk.{IsReady}

-- what a run holds, as a moment of a play
abbrev pub moment_of : {C F : Type 0} → Run C F → Moment F
moment_of run = record { fronts = run.fronts.items; signals = run.desk.outs.blocks; sound = run.pcm }

-- the fronts so far are of the session's first instances, and the desk is ready
pub record IsRunning {C F : Type 0} (uri_of : F → List ℕ) (s : Session) (run : Run C F) : Type 0 where
  pub fronts : map uri_of run.fronts.items ≡ take (length run.fronts.items) (uris_of s)
  pub desk : IsReady s run.desk

-- the record grew by these entries, and what the run holds is what they make of what it held
pub record Plays {C F : Type 0} (code : Meaning F) (uri_of : F → List ℕ) (s : Session) (old new : Run C F) (entries : List Entry) : Type 0 where
  pub steps : new.steps ≡ old.steps ++ entries
  pub moment : moment_of new ≡ played_from code s (moment_of old) entries
  pub running : IsRunning uri_of s new
