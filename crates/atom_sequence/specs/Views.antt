-- What a merger holds, and where it writes.
use Rattle.std.specs.Prelude.{◌≡◌, ℕ, false, List, [], ◌∷◌}
use Rattle.atom_core.specs.Spelling.{parts_of}
use Rattle.atom_forge.specs.declared.level.Holds.TheVariants.{Events}
use Rattle.atom_forge.specs.Forged.{Forged, opening, with_piece, with_container}
use Rattle.atom_sequence.specs.Event.{Event, as_parts, SpellSequence, NeverFall}

-- the bytes are a sequence
abbrev pub IsSequence : List ℕ → Type 0
IsSequence bytes = ∥ ((events : List Event) × SpellSequence bytes events) ∥₁

-- the times of a sequence don't fall
abbrev pub IsInOrder : List ℕ → Type 0
IsInOrder bytes = (events : List Event) → SpellSequence bytes events → NeverFall events

-- each view is a sequence of the events in its list
abbrev pub HoldEvents : List (List ℕ) → List (List Event) → Type 0
HoldEvents [] [] = Unit {0}
HoldEvents (bytes ∷ views) (events ∷ lists) = SpellSequence bytes events × HoldEvents views lists
HoldEvents [] (events ∷ lists) = ⊥
HoldEvents (bytes ∷ views) [] = ⊥

-- an empty sequence is open in a forge, and nothing else is in it
abbrev pub IsEmptySequence : Forged → Type 0
IsEmptySequence forge = forge ≡ with_container (record { room = forge.room; bytes = []; levels = []; waits = false }) Events (opening 10 0 0)

-- a sequence is the only container that is open, and no event waits for its atom
pub record AwaitsEvent (forge : Forged) : Type 0 where
  pub level : forge.levels ≡ record { holds = Events; at = 0 } ∷ []
  pub still : forge.waits ≡ false

-- a forge with these events after what it holds
abbrev pub with_events : Forged → List Event → Forged
with_events forge events = with_piece forge (parts_of (as_parts events)) false
