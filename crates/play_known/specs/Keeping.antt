-- Records that keep the rule on values, and what makes a record lawful.
use Rattle.std.specs.Prelude.{◌≡◌, List, [], ◌∷◌, ◌++◌, true}
use Rattle.step_law.specs.declared.entry.Entry.{Entry}
use Rattle.record_law.specs.Lawful.{IsLawful}
use Rattle.session_play.specs.Playing.{step_at, then_played, playing}
use Rattle.session_play.specs.Rules.{IsLawfulRecord}
use Rattle.session_play.specs.Run.{Run}
use Rattle.session_play.specs.SessionShape.{shape_of}
use Rattle.session_play.specs.Value.{Play}
use Rattle.session_play.specs.ValueRule.{keeps_values}

-- these entries keep it, in order, after a play
abbrev pub KeepValues : {F B : Type 0} → Run F B → Play F B → List Entry → Type 0
KeepValues run p [] = Unit {0}
KeepValues run p (e ∷ later) = (keeps_values run p (step_at run p e) ≡ true) × KeepValues run (then_played run p e) later

-- entries, and then others
abbrev pub ValuesGoOn : Type 0 → Type 0 → Type 0
ValuesGoOn F B = (run : Run F B) (p : Play F B) (first second : List Entry) → KeepValues run p first → KeepValues run (playing run p first) second
    → KeepValues run p (first ++ second)

-- a record is lawful if it is but for its values, and keeps the rule on them
abbrev pub BothAreAll : Type 0 → Type 0 → Type 0
BothAreAll F B = (run : Run F B) (steps : List Entry) → IsLawful (shape_of run.setup) steps → KeepValues run [] steps → IsLawfulRecord run steps
