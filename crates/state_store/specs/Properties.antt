-- The properties of LV2's state extension (http://lv2plug.in/ns/ext/state): values by the numbers of their keys, each with its type and its flags.
use Rattle.std.specs.Prelude.{◌≡◌, ℕ, ◌+◌, ◌<◌, ◌≤◌, ◌==◌, nat_lt, nat_le, Bool, true, false, ◌&&◌, ◌||◌, if◌then◌else◌, List, [], ◌∷◌, ◌++◌, length, filter, Option, None, Some, AllPairs}
use Rattle.std.specs.List.{AllPass}
use Rattle.state_store.specs.declared.prop.Prop.{Prop}
use Rattle.state_store.specs.declared.status.TheConstants.{MOST_PROPERTIES, MOST_BYTES}

-- the keys rise: each stands once, and in one order
abbrev pub AreRising : List (ℕ × Prop) → Type 0
AreRising rows = AllPairs (λ before after. before.0 < after.0) rows

-- the value with this key (LV2_State_Retrieve_Function)
abbrev pub held : List (ℕ × Prop) → ℕ → Option Prop
held [] key = None
held (row ∷ rows) key = if key == row.0 then Some row.1 else held rows key

-- the rows with lower and with greater keys
abbrev pub below : ℕ → List (ℕ × Prop) → List (ℕ × Prop)
below key rows = filter (λ row. nat_lt row.0 key) rows

abbrev pub above : ℕ → List (ℕ × Prop) → List (ℕ × Prop)
above key rows = filter (λ row. nat_lt key row.0) rows

-- the properties once this one is stored: it stands in its place among the others, and takes the place of a former one with its key
abbrev pub with_property : List (ℕ × Prop) → ℕ → Prop → List (ℕ × Prop)
with_property rows key prop = below key rows ++ (key, prop) ∷ above key rows

-- the bytes of all values
abbrev pub bytes_in : List (ℕ × Prop) → ℕ
bytes_in [] = 0
bytes_in (row ∷ rows) = length row.1.bytes + bytes_in rows

-- they are as many, and their values have as many bytes, as a shelf has room for
abbrev pub fit : List (ℕ × Prop) → Bool
fit rows = nat_le (length rows) MOST_PROPERTIES && nat_le (bytes_in rows) MOST_BYTES

-- a URI has this number, where so many have one; 0 is no URI's
abbrev pub is_mapped : ℕ → ℕ → Bool
is_mapped mapped number = nat_lt 0 number && nat_le number mapped

-- LV2_State_Flags of a value that may be kept in a file and read on another machine: LV2_STATE_IS_POD (1) with LV2_STATE_IS_PORTABLE (2), also
-- with LV2_STATE_IS_NATIVE (4)
abbrev pub are_flags : ℕ → Bool
are_flags flags = flags == 3 || flags == 7

-- key and type have numbers, and the flags are those
abbrev pub is_storable : ℕ → ℕ × Prop → Bool
is_storable mapped row = (is_mapped mapped row.0 && is_mapped mapped row.1.kind) && are_flags row.1.flags

-- what a shelf may hold
pub record AreStorable (mapped : ℕ) (rows : List (ℕ × Prop)) : Type 0 where
  pub rising : AreRising rows
  pub lawful : AllPass (is_storable mapped) rows
  pub room : fit rows ≡ true
