-- The laws of the stable order, and of the events of a sequence.
use Rattle.std.specs.Prelude.{◌≡◌, ◌&&◌, ℕ, List, ℤ, int_le}
use Rattle.std.specs.List.{filter}
use Rattle.atom_sequence.specs.Event.{Event, SpellSequence, NeverFall}
use Rattle.atom_sequence.specs.Merge.{in_order}

-- the events at one time, in their own order
abbrev pub at_time : ℤ → List Event → List Event
at_time time events = filter (λ (e : Event). int_le time e.time && int_le e.time time) events

-- the times don't fall, and at each time stand the same events in the same order
pub record IsStableOrder (given ordered : List Event) : Type 0 where
  pub rises : NeverFall ordered
  pub same : (time : ℤ) → at_time time ordered ≡ at_time time given

-- each list of events has a stable order, and no two
pub record StableOrder : Type 0 where
  pub some : (given : List Event) → IsStableOrder given (in_order given)
  pub only : (given ordered : List Event) → IsStableOrder given ordered → ordered ≡ in_order given

-- no bytes are a sequence of two lists of events
abbrev pub OneList : Type 0
OneList = (bytes : List ℕ) (a b : List Event) → SpellSequence bytes a → SpellSequence bytes b → a ≡ b
