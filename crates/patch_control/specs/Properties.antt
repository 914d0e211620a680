-- The properties of an object, by their keys (LV2 atom, `LV2_Atom_Object` and `LV2_Atom_Property_Body`).
use Rattle.std.specs.Prelude.{ℕ, ◌==◌, if◌then◌else◌, Bool, false, ◌&&◌, ◌||◌, Option, None}
use Rattle.std.specs.Option.{option_or}
use Rattle.atom_core.specs.Value.{keyed, Value, Parts, none, part}

-- the first value with this key that counts, as what it counts for
abbrev pub first : {A : Type 0} → (Value → Option A) → ℕ → Parts → Option A
first counts key none = None
first counts key (part (keyed k context) value parts) = if k == key then option_or (counts value) (first counts key parts) else first counts key parts
first counts key (part lead value parts) = first counts key parts

-- a property has this key
abbrev pub has_key : ℕ → Parts → Bool
has_key key none = false
has_key key (part (keyed k context) value parts) = k == key || has_key key parts
has_key key (part lead value parts) = has_key key parts

-- two properties have this key
abbrev pub repeats_key : ℕ → Parts → Bool
repeats_key key none = false
repeats_key key (part (keyed k context) value parts) = (k == key && has_key key parts) || repeats_key key parts
repeats_key key (part lead value parts) = repeats_key key parts
