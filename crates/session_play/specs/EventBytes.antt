-- The events that stand in the bytes of an atom port (LV2 atom, `LV2_Atom_Event`: a time, then an atom, then zeros up to a multiple of 8).
use Rattle.std.specs.Prelude.{ℕ, zero, suc, ◌+◌, nat_lt, if◌then◌else◌, List, [], ◌∷◌, drop, length, slice_range}
use Rattle.std.specs.Int.{w64, cast_signed}
use Rattle.atom_core.specs.Place.{wide_at, size_at, kind_at, padded}
use Rattle.atom_core.specs.Value.{plain, other}
use Rattle.atom_core.specs.Spelling.{parts_of}
use Rattle.atom_sequence.specs.Event.{Event, as_parts}

-- the first: its time, and its atom as a type and a body
abbrev pub first_event : List ℕ → Event
first_event bytes = record {
  time = cast_signed w64 (wide_at bytes 0);
  value = plain (other (kind_at bytes 8) (slice_range bytes 16 (16 + size_at bytes 8)));
}

-- the bytes after it
abbrev pub behind_event : List ℕ → List ℕ
behind_event bytes = drop (16 + padded (size_at bytes 8)) bytes

-- at most so many
abbrev pub events_within : ℕ → List ℕ → List Event
events_within zero bytes = []
events_within (suc more) bytes = let later = events_within more (behind_event bytes) in if nat_lt (length bytes) 16 then [] else first_event bytes ∷ later

-- all of them
abbrev pub events_at : List ℕ → List Event
events_at bytes = events_within (length bytes) bytes

-- the bytes of events
abbrev pub bytes_of : List Event → List ℕ
bytes_of events = parts_of (as_parts events)
