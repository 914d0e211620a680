-- The objects that are written as messages: ids and contexts are 0, and the properties stand in one order.
use Rattle.std.specs.Prelude.{ℕ, zero, suc, List, [], ◌∷◌}
use Rattle.atom_core.specs.Value.{int, fixed, urid, object, keyed, Value, plain, holding, Parts, none, part}
use Rattle.patch_control.specs.declared.value.Value.{Value as Number}
use Rattle.patch_control.specs.declared.value.Value.TheVariants.{Int, Fixed}
use Rattle.patch_control.specs.declared.words.TheConstants.{GET, SET, PUT, PROPERTY, VALUE, BODY}

-- the values of properties
abbrev pub value_of : Number → Value
value_of (Int n) = plain (int n)
value_of (Fixed f) = plain (fixed f.0)

abbrev pub urid_value : ℕ → Value
urid_value n = plain (urid n)

-- a patch:Get of 0 has no property
abbrev pub asked_for : ℕ → Parts
asked_for zero = none
asked_for (suc n) = part (keyed PROPERTY 0) (urid_value (suc n)) none

abbrev pub get_object : ℕ → Value
get_object property = holding (object 0 GET) (asked_for property)

-- the property, and then the value
abbrev pub set_object : ℕ → Number → Value
set_object property value = holding (object 0 SET) (part (keyed PROPERTY 0) (urid_value property) (part (keyed VALUE 0) (value_of value) none))

abbrev pub rows_in : List (ℕ × Number) → Parts
rows_in [] = none
rows_in (row ∷ rows) = part (keyed row.0 0) (value_of row.1) (rows_in rows)

-- a body of type 0, with the properties
abbrev pub body_with : List (ℕ × Number) → Value
body_with rows = holding (object 0 0) (rows_in rows)

abbrev pub put_object : List (ℕ × Number) → Value
put_object rows = holding (object 0 PUT) (part (keyed BODY 0) (body_with rows) none)
