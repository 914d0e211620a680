-- The value that bytes spell, read off them (LV2 atom, `LV2_Atom` and "Atom Types"). Bytes that spell nothing give some value too.
use Rattle.std.specs.Prelude.{ℕ, zero, suc, ◌+◌, ◌-◌, ◌==◌, if◌then◌else◌, List, [], ◌∷◌, length, take, drop, ℤ}
use Rattle.std.specs.Int.{w32, w64, from_le_bytes, cast_signed}
use Rattle.atom_core.specs.declared.form.Form.{Form}
use Rattle.atom_core.specs.declared.form.Form.TheVariants.{Any, Four, Eight, Text, Literal, Vector, Tuple, Object, Sequence}
use Rattle.atom_core.specs.Form.{form_of, lead_len}
use Rattle.atom_core.specs.Place.{padded}
use Rattle.atom_core.specs.Value.{Plain, int, long, boolean, urid, string, literal, vector, float, double, fixed, uri, path, other, tuple, object, sequence, Lead, bare, keyed, timed, Value, plain, holding, Parts, none, part}

-- the number in the first four bytes, the low one first
abbrev pub number_in : List ℕ → ℕ
number_in bytes = from_le_bytes w32 (take 4 bytes)

-- signed ones in the first four and eight
abbrev pub int_in : List ℕ → ℤ
int_in bytes = cast_signed w32 (from_le_bytes w32 bytes)

abbrev pub long_in : List ℕ → ℤ
long_in bytes = cast_signed w64 (from_le_bytes w64 bytes)

-- a text without its zero
abbrev pub text_in : List ℕ → List ℕ
text_in body = take (length body - 1) body

-- the bodies of four and of eight bytes, and texts, by their types
abbrev pub four_in : ℕ → List ℕ → Plain
four_in kind body =
    if kind == 1 then int (int_in body) else
    if kind == 3 then boolean (int_in body) else
    if kind == 4 then urid (from_le_bytes w32 body) else float body

abbrev pub eight_in : ℕ → List ℕ → Plain
eight_in kind body =
    if kind == 2 then long (long_in body) else
    if kind == 13 then double body else fixed (long_in body)

abbrev pub words_in : ℕ → List ℕ → Plain
words_in kind body =
    if kind == 5 then string (text_in body) else
    if kind == 24 then uri (text_in body) else path (text_in body)

-- the body of an atom that holds no atoms, by its form and its type
abbrev pub plain_in : Form → ℕ → List ℕ → Plain
plain_in Any kind body = other kind body
plain_in Four kind body = four_in kind body
plain_in Eight kind body = eight_in kind body
plain_in Text kind body = words_in kind body
plain_in Literal kind body = literal (number_in body) (number_in (drop 4 body)) (text_in (drop 4 (drop 4 body)))
plain_in Vector kind body = vector (number_in body) (number_in (drop 4 body)) (drop 4 (drop 4 body))
plain_in Tuple kind body = other kind body
plain_in Object kind body = other kind body
plain_in Sequence kind body = other kind body

-- what stands before the atom of a part
abbrev pub lead_in : Form → List ℕ → Lead
lead_in Object bytes = keyed (number_in bytes) (number_in (drop 4 bytes))
lead_in Sequence bytes = timed (long_in bytes)
lead_in form bytes = bare

-- how the parts of a container of this form are read
abbrev pub Reader : Type 0
Reader = Form → List ℕ → Parts

abbrev pub value_by : Reader → Form → ℕ → List ℕ → Value
value_by parts Tuple kind body = holding tuple (parts Tuple body)
value_by parts Object kind body = holding (object (number_in body) (number_in (drop 4 body))) (parts Object (drop 8 body))
value_by parts Sequence kind body = holding sequence (parts Sequence (drop 8 body))
value_by parts form kind body = plain (plain_in form kind body)

-- the atom that bytes begin with: the size of its body, its type, and the body
abbrev pub atom_by : Reader → List ℕ → Value
atom_by parts bytes = value_by parts (form_of (number_in (drop 4 bytes))) (number_in (drop 4 bytes)) (take (number_in bytes) (drop 8 bytes))

-- where the part that bytes begin with ends
abbrev pub end_in : Form → List ℕ → ℕ
end_in form bytes = lead_len form + padded (8 + number_in (drop (lead_len form) bytes))

-- the parts that bytes spell; of so many bytes there are no more parts, and no more within each other
abbrev pub parts_within : ℕ → Reader
parts_within zero form bytes = none
parts_within (suc more) form [] = none
parts_within (suc more) form (byte ∷ bytes) =
    part (lead_in form (byte ∷ bytes)) (atom_by (parts_within more) (drop (lead_len form) (byte ∷ bytes)))
    (parts_within more form (drop (end_in form (byte ∷ bytes)) (byte ∷ bytes)))

-- the value of an atom, and the events of a sequence
unfoldable pub value_in : List ℕ → Value
value_in bytes = atom_by (parts_within (length bytes)) bytes

unfoldable pub events_in : List ℕ → Parts
events_in bytes = parts_within (length bytes) Sequence bytes
