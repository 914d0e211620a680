-- What the words of a session script may be: numbers, decimals, names, paths and IRIs.
use Rattle.std.specs.Prelude.{ℕ, ◌-◌, ◌^◌, Bool, true, false, not, ◌&&◌, ◌==◌, nat_eq, nat_le, nat_lt, List, length, take, slice_index, codes, is_some, Result, Ok, Err, unwrap_or, ℤ, pos, if◌then◌else◌}
use Rattle.std.specs.Char.{is_ascii_digit}
use Rattle.std.specs.Result.{is_ok, result_ok}
use Rattle.std.specs.List.{slice_split, list_all, list_any, starts_with}
use Rattle.std.specs.Str.{bytes_eq}
use Rattle.lv_base.specs.declared.number.Fixed.{Fixed}
use Rattle.lv_base.specs.declared.decimal.NumFault.{NumFault}
use Rattle.lv_base.specs.declared.decimal.NumFault.TheVariants.{NotNumber, Range}
use Rattle.lv_base.specs.Decimal.{after_sign, is_negative, fixed_of, signed}
use Rattle.iri_resolve.specs.Components.{scheme_of}
use Rattle.iri_resolve.specs.Excluded.{is_excluded}
use Rattle.session_script.specs.Words.{is_word, value_of}

-- decimal digits
abbrev pub is_number : List ℕ → Bool
is_number word = is_word word && list_all is_ascii_digit word

-- decimal digits after an optional sign
abbrev pub is_integer : List ℕ → Bool
is_integer word = is_number (after_sign word)

-- an integer from -2^31 to 2^31 - 1
abbrev pub fits_i32 : List ℕ → Bool
fits_i32 word = if is_negative word then nat_le (value_of (after_sign word)) (2 ^ 31) else nat_lt (value_of (after_sign word)) (2 ^ 31)

-- whether this is the fault of a word that is no number at all
abbrev pub is_no_number : Result Fixed NumFault → Bool
is_no_number (Ok value) = false
is_no_number (Err NotNumber) = true
is_no_number (Err Range) = false

-- an INTEGER, a DECIMAL or a DOUBLE of Turtle 1.1
abbrev pub is_decimal : List ℕ → Bool
is_decimal word = not (is_no_number (fixed_of word))

-- a decimal that is in range
abbrev pub fits_fixed : List ℕ → Bool
fits_fixed word = is_ok (fixed_of word)

-- the number of a decimal
abbrev pub fixed_value : List ℕ → Fixed
fixed_value word = unwrap_or (result_ok (fixed_of word)) (record { 0 = pos 0 })

-- the number of digits after an optional sign
abbrev pub integer_value : List ℕ → ℤ
integer_value word = signed (is_negative word) (value_of (after_sign word))

-- `/`
abbrev pub is_slash : ℕ → Bool
is_slash byte = byte == 47

-- what may stand between the `/` of a path: neither nothing nor `.` nor `..`
abbrev pub is_segment : List ℕ → Bool
is_segment part = is_word part && not (bytes_eq part (codes ".")) && not (bytes_eq part (codes ".."))

-- a path below a folder
abbrev pub is_path : List ℕ → Bool
is_path path = nat_le (length path) 512 && not (starts_with nat_eq path (codes "/")) && list_all is_segment (slice_split is_slash path)

-- a path without the one `/` that may end it
abbrev pub without_slash : List ℕ → List ℕ
without_slash path = if is_slash (slice_index path (length path - 1)) then take (length path - 1) path else path

-- it has a scheme (RFC 3986, appendix B), and no character that may not stand in an IRI (Turtle 1.1, IRIREF)
abbrev pub is_iri : List ℕ → Bool
is_iri word = is_some (scheme_of word) && not (list_any is_excluded word)
