-- What literals say: texts, integers and control values.
use Rattle.std.specs.Prelude.{ℕ, Bool, false, ◌==◌, nat_le, if◌then◌else◌, ℤ, pos, negsuc, List, length, codes, find, Option, None, Some, is_some}
use Rattle.std.specs.Option.{option_or, option_and_then}
use Rattle.std.specs.Result.{result_ok}
use Rattle.std.specs.Str.{bytes_eq}
use Rattle.lv_base.specs.declared.number.Fixed.{Fixed}
use Rattle.lv_base.specs.Decimal.{after_sign, are_some_digits, signed_of, fixed_of}
use Rattle.triple_store.specs.declared.term.Term.{Term}
use Rattle.triple_store.specs.declared.term.Term.TheVariants.{Iri, Blank, Literal}

-- the text of a literal
abbrev pub text_in : Term → Option (List ℕ)
text_in (Literal text datatype lang) = Some text
text_in (Iri iri) = None
text_in (Blank number) = None

-- the IRI that a term is
abbrev pub iri_in : Term → Option (List ℕ)
iri_in (Iri iri) = Some iri
iri_in (Blank number) = None
iri_in (Literal text datatype lang) = None

abbrev pub is_literal : Term → Bool
is_literal term = is_some (text_in term)

-- a literal without a language tag
abbrev pub is_untagged : Term → Bool
is_untagged (Literal text datatype lang) = length lang == 0
is_untagged (Iri iri) = false
is_untagged (Blank number) = false

-- of several names the first without a language tag, else the first
unfoldable pub name_in : List Term → Option (List ℕ)
name_in names = option_and_then text_in (option_or (find is_untagged names) (find is_literal names))

-- the integer that a text says: [+-]?[0-9]+, by its value
abbrev pub integer_of : List ℕ → Option ℤ
integer_of text = if are_some_digits (after_sign text) then Some (signed_of text) else None

-- an integer from 0 to `most`
abbrev pub up_to : ℕ → Option ℤ → Option ℕ
up_to most (Some (pos n)) = if nat_le n most then Some n else None
up_to most (Some (negsuc n)) = None
up_to most None = None

-- the integer from 0 to `most` that a literal of any datatype says
unfoldable pub natural_in : ℕ → Term → Option ℕ
natural_in most term = up_to most (option_and_then integer_of (text_in term))

-- a control value: true is 1.0 and false 0, and else it is the decimal number
abbrev pub value_of : List ℕ → Option Fixed
value_of text =
    if bytes_eq text (codes "true") then Some (record { 0 = pos 16777216 })
    else (if bytes_eq text (codes "false") then Some (record { 0 = pos 0 })
    else result_ok (fixed_of text))

-- the control value that a literal of any datatype says
unfoldable pub value_in : Term → Option Fixed
value_in term = option_and_then value_of (text_in term)
