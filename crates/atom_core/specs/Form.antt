-- What a type's bodies are made of (LV2 atom, "Atom Types").
use Rattle.std.specs.Prelude.{ℕ, ◌-◌, ◌%◌, ◌==◌, nat_le, if◌then◌else◌, Bool, true, false, ◌&&◌, slice_index_or}
use Rattle.atom_core.specs.declared.form.Form.{Form}
use Rattle.atom_core.specs.declared.form.Form.TheVariants.{Any, Four, Eight, Text, Literal, Vector, Tuple, Object, Sequence}
use Rattle.atom_core.specs.declared.form.TheConstants.{FORMS}

-- the form of a type, by the table; every type that isn't there has any bytes
unfoldable pub form_of : ℕ → Form
form_of kind = slice_index_or FORMS kind Any

-- so many bytes are elements of a size; elements of no size are none
abbrev pub is_multiple : ℕ → ℕ → Bool
is_multiple bytes element = if element == 0 then bytes == 0 else bytes % element == 0

-- the sizes of a body; `element` is what a vector says of the size of its elements
abbrev pub allows_size : Form → ℕ → ℕ → Bool
allows_size Any size element = true
allows_size Four size element = size == 4
allows_size Eight size element = size == 8
allows_size Text size element = nat_le 1 size
allows_size Literal size element = nat_le 9 size
allows_size Vector size element = nat_le 8 size && is_multiple (size - 8) element
allows_size Tuple size element = true
allows_size Object size element = nat_le 8 size
allows_size Sequence size element = nat_le 8 size

-- the forms that hold atoms
abbrev pub is_container : Form → Bool
is_container Tuple = true
is_container Object = true
is_container Sequence = true
is_container form = false

-- how many bytes stand before a container's parts, and before the atom of each part
abbrev pub lead_len : Form → ℕ
lead_len Object = 8
lead_len Sequence = 8
lead_len form = 0
