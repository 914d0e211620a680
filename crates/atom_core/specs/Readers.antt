-- What the readers give of a value: its number or its text, where it is of their type.
use Rattle.std.specs.Prelude.{ℕ, ℤ, List, Option, Some, None}
use Rattle.lv_base.specs.declared.number.Fixed.{Fixed}
use Rattle.atom_core.specs.Value.{int, long, urid, string, fixed, Value, plain}

abbrev pub int_of : Value → Option ℤ
int_of (plain (int z)) = Some z
int_of value = None

abbrev pub long_of : Value → Option ℤ
long_of (plain (long z)) = Some z
long_of value = None

abbrev pub fixed_of : Value → Option Fixed
fixed_of (plain (fixed z)) = Some (record { 0 = z })
fixed_of value = None

abbrev pub urid_of : Value → Option ℕ
urid_of (plain (urid n)) = Some n
urid_of value = None

-- a string without its zero
abbrev pub text_of : Value → Option (List ℕ)
text_of (plain (string text)) = Some text
text_of value = None
