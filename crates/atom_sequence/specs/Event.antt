-- Events, and the parts of a sequence that has them (LV2 atom, `LV2_Atom_Event` and `LV2_Atom_Sequence`).
use Rattle.std.specs.Prelude.{ℕ, List, [], ◌∷◌, length, ℤ, ◌≤ℤ◌}
use Rattle.std.specs.List.{All}
use Rattle.atom_core.specs.Value.{sequence, timed, Value, holding, Parts, none, part}
use Rattle.atom_core.specs.Spelling.{part_of}
use Rattle.atom_core.specs.Answer.{Spells}

-- an event: its time in frames, and its atom
pub record Event : Type 0 where
  pub time : ℤ
  pub value : Value

-- the parts of a sequence of these events
abbrev pub as_parts : List Event → Parts
as_parts [] = none
as_parts (e ∷ events) = part (timed e.time) e.value (as_parts events)

-- the bytes of a sequence of these events
abbrev pub SpellSequence : List ℕ → List Event → Type 0
SpellSequence bytes events = Spells bytes (holding sequence (as_parts events))

-- how many bytes an event takes: its time, its atom, and zeros up to a multiple of 8
abbrev pub size_of : Event → ℕ
size_of e = length (part_of (timed e.time) e.value)

-- no event is earlier than one before it
abbrev pub NeverFall : List Event → Type 0
NeverFall [] = Unit {0}
NeverFall (e ∷ events) = All (λ f. e.time ≤ℤ f.time) events × NeverFall events
