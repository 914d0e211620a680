-- How a shelf keeps its properties: a slot for each, in order of the keys, and the bytes of their values one after another in one buffer. No public clause
-- rests on it.
use Rattle.std.specs.Prelude.{◌≡◌, ℕ, ◌+◌, ◌<◌, ◌≤◌, ◌==◌, nat_lt, if◌then◌else◌, List, [], ◌∷◌, ◌++◌, length, take, drop, Option, None, Some, unwrap_or}
use Rattle.state_store.specs.declared.prop.Prop.{Prop}
use Rattle.state_store.specs.declared.slots.Slot.{Slot}
use Rattle.state_store.specs.declared.slots.Place.{Place}

-- the properties that are kept
abbrev pub rows_of : List Slot → List ℕ → List (ℕ × Prop)
rows_of [] bytes = []
rows_of (slot ∷ slots) bytes = (slot.key, record { kind = slot.kind; flags = slot.flags; bytes = take slot.size bytes }) ∷ rows_of slots (drop slot.size bytes)

-- the bytes of all their values
abbrev pub size_of : List Slot → ℕ
size_of [] = 0
size_of (slot ∷ slots) = slot.size + size_of slots

-- a place after so many slots and bytes
abbrev pub behind : ℕ → ℕ → Place → Place
behind slots bytes place = record { index = slots + place.index; offset = bytes + place.offset; former = place.former }

-- where a key has its slot, or would have it
abbrev pub place_of : List Slot → ℕ → Place
place_of [] key = record { index = 0; offset = 0; former = None }
place_of (slot ∷ slots) key =
    if nat_lt slot.key key then behind 1 slot.size (place_of slots key)
    else record { index = 0; offset = 0; former = if slot.key == key then Some slot.size else None }

-- the slots with another, which takes the place of one with its key
abbrev pub with_slot : List Slot → Slot → List Slot
with_slot [] new = new ∷ []
with_slot (slot ∷ slots) new =
    if nat_lt slot.key new.key then slot ∷ with_slot slots new
    else if slot.key == new.key then new ∷ slots else new ∷ slot ∷ slots

-- the bytes with those of a value at a place, for those of a former one
abbrev pub with_bytes : List ℕ → Place → List ℕ → List ℕ
with_bytes bytes place value = take place.offset bytes ++ (value ++ drop (place.offset + unwrap_or place.former 0) bytes)
