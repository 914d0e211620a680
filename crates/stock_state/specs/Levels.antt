-- A level: a control value that is kept as a property of a state (LV2 state), by the body of its atom.
use Rattle.std.specs.Prelude.{ℕ, ◌+ℤ◌, ◌==◌, ◌&&◌, if◌then◌else◌, List, [], ◌∷◌, length, Option, None, Some, Result, Ok, Err}
use Rattle.std.specs.Int.{w64, cast_signed, cast_unsigned, from_le_bytes, to_le_bytes}
use Rattle.lv_base.specs.declared.number.Fixed.{Fixed}
use Rattle.lv_base.specs.declared.number.Sample.{Sample}
use Rattle.lv_base.specs.Number.{clamped}
use Rattle.state_store.specs.declared.prop.Prop.{Prop}
use Rattle.state_store.specs.declared.status.TheConstants.{SUCCESS, BAD_TYPE, NO_PROPERTY}
use Rattle.state_store.specs.Properties.{held, is_mapped}

-- the body of a Fixed: eight bytes, the low one first
abbrev pub level_bytes : Fixed → List ℕ
level_bytes level = to_le_bytes w64 (cast_unsigned w64 level.0)

abbrev pub level_in : List ℕ → Fixed
level_in bytes = record { 0 = cast_signed w64 (from_le_bytes w64 bytes) }

-- what is heard of a level
abbrev pub heard : Fixed → Fixed → Sample
heard level more = clamped (level.0 +ℤ more.0)

-- the property of a level, of type Fixed: LV2_STATE_IS_POD and LV2_STATE_IS_PORTABLE
abbrev pub level_property : Fixed → Prop
level_property level = record { kind = 14; flags = 3; bytes = level_bytes level }

-- the body of a stored level: LV2_STATE_ERR_NO_PROPERTY where none is stored, LV2_STATE_ERR_BAD_TYPE where it isn't a Fixed of eight bytes
abbrev pub body_of : Option Prop → Result (List ℕ) ℕ
body_of None = Err NO_PROPERTY
body_of (Some prop) = if prop.kind == 14 && length prop.bytes == 8 then Ok prop.bytes else Err BAD_TYPE

abbrev pub stored : List (ℕ × Prop) → ℕ → Result (List ℕ) ℕ
stored props key = body_of (held props key)

-- a level is stored under its key; there is no other property
abbrev pub saved : ℕ → Fixed → ℕ → ℕ × List (ℕ × Prop)
saved key level mapped =
    if is_mapped mapped key && is_mapped mapped 14 then (SUCCESS, (key, level_property level) ∷ []) else (BAD_TYPE, [])
