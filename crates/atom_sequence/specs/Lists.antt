-- Lists of events that are given as their bytes, one event after the other (LV2 atom, `LV2_Atom_Event`).
use Rattle.std.specs.Prelude.{ℕ, List, [], ◌∷◌}
use Rattle.std.specs.Borrow.{Bor}
use Rattle.atom_core.specs.Atoms.{SpellEvents, AreEvents}
use Rattle.atom_sequence.specs.Event.{Event, as_parts}

-- the bytes spell events
abbrev pub IsList : Bor (List ℕ) → Type 0
IsList bytes = ∥ AreEvents bytes.now ∥₁

-- each has the events of its list
abbrev pub HoldLists : List (Bor (List ℕ)) → List (List Event) → Type 0
HoldLists [] [] = Unit {0}
HoldLists (bytes ∷ others) (events ∷ lists) = SpellEvents bytes.now (as_parts events) × HoldLists others lists
HoldLists [] (events ∷ lists) = ⊥
HoldLists (bytes ∷ others) [] = ⊥
