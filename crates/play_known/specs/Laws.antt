-- What is known goes on with a play: entry by entry, and call by call.
use Rattle.std.specs.Prelude.{◌≡◌, ℕ, List, ◌∷◌}
use Rattle.session_play.specs.Looking.{steps_of}
use Rattle.session_play.specs.Playing.{playing}
use Rattle.session_play.specs.Run.{Run}
use Rattle.session_play.specs.SessionShape.{shape_of}
use Rattle.session_play.specs.Value.{Moment, Play}
use Rattle.play_known.specs.Calling.{WholeCall, steps_in, entries_in, AreTold, IsCall}
use Rattle.play_known.specs.InCall.{known_in_call}
use Rattle.play_known.specs.Keeping.{KeepValues}
use Rattle.play_known.specs.Known.{known_of, known_after}
use Rattle.play_known.specs.Rings.{TakesAreSent}

-- an entry changes what is known in one way
abbrev pub KnownGoesOn : Type 0 → Type 0 → Type 0
KnownGoesOn F B = (run : Run F B) (names : List (List ℕ)) (x : Moment F B) (p : Play F B) → TakesAreSent (steps_of p)
    → known_of run names (x ∷ p) ≡ known_after run.setup names x (known_of run names p)

-- so does a whole call, whose entries keep the rule on values
abbrev pub CallIsKnown : Type 0 → Type 0 → Type 0
CallIsKnown F B = (run : Run F B) (names : List (List ℕ)) (it : WholeCall F B) (p : Play F B) → TakesAreSent (steps_of p)
    → IsCall run names (known_of run names p) it → AreTold (shape_of run.setup) (steps_of p) (steps_in it)
    → known_of run names (playing run p (entries_in it)) ≡ known_in_call run.setup it (known_of run names p)

abbrev pub CallKeepsValues : Type 0 → Type 0 → Type 0
CallKeepsValues F B = (run : Run F B) (names : List (List ℕ)) (it : WholeCall F B) (p : Play F B)
    → IsCall run names (known_of run names p) it → AreTold (shape_of run.setup) (steps_of p) (steps_in it) → KeepValues run p (entries_in it)
