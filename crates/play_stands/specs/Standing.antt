-- Where a record stands that is being made: its entries keep the rule on values, and this is known after them.
use Rattle.std.specs.Prelude.{◌≡◌, ℕ, List, []}
use Rattle.step_law.specs.declared.entry.Entry.{Entry}
use Rattle.record_law.specs.Protocol.{history_of}
use Rattle.session_play.specs.Playing.{play_of}
use Rattle.session_play.specs.Run.{Run}
use Rattle.session_play.specs.SessionShape.{shape_of}
use Rattle.play_known.specs.Keeping.{KeepValues}
use Rattle.play_known.specs.Known.{Known, known_of}
use Rattle.play_known.specs.Rings.{TakesAreSent}

pub record Stands {F B : Type 0} (run : Run F B) (names : List (List ℕ)) (steps : List Entry) (k : Known F B) : Type 0 where
  pub kept : KeepValues run [] steps
  pub sent : TakesAreSent (history_of (shape_of run.setup) steps)
  pub known : known_of run names (play_of run steps) ≡ k
