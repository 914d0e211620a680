-- Decimal numbers as Turtle 1.1 (W3C Recommendation, 6.5 Grammar) writes them, and the fixed-point number that each stands for.
use Rattle.std.specs.Prelude.{ℕ, ◌+◌, ◌-◌, ◌*◌, ◌/◌, ◌^◌, ◌==◌, nat_lt, if◌then◌else◌, Bool, false, not, ◌&&◌, ◌||◌, ℤ, pos, negsuc, neg_ℤ, ◌+ℤ◌, ◌-ℤ◌, List, [], ◌∷◌, ◌++◌, length, take, drop, fold, position, Option, Some, None, is_none, unwrap_or, Result, Ok, Err}
use Rattle.std.specs.Char.{is_ascii_digit}
use Rattle.std.specs.List.{list_all}
use Rattle.lv_base.specs.declared.number.Fixed.{Fixed}
use Rattle.lv_base.specs.declared.decimal.NumFault.{NumFault}
use Rattle.lv_base.specs.declared.decimal.NumFault.TheVariants.{NotNumber, Range}

-- ---- the parts of a text

-- + and -
abbrev pub is_sign : ℕ → Bool
is_sign c = c == 43 || c == 45

-- .
abbrev pub is_dot : ℕ → Bool
is_dot c = c == 46

-- E and e, which begin an exponent
abbrev pub is_exponent_mark : ℕ → Bool
is_exponent_mark c = c == 69 || c == 101

-- whether a text begins with -
abbrev pub is_negative : List ℕ → Bool
is_negative [] = false
is_negative (c ∷ text) = c == 45

-- a text after its sign, if it has one
abbrev pub after_sign : List ℕ → List ℕ
after_sign [] = []
after_sign (c ∷ text) = if is_sign c then text else c ∷ text

-- a text cut at a place: what stands before it, and what follows it
abbrev pub cut_at : List ℕ → Option ℕ → List ℕ × Option (List ℕ)
cut_at text None = (text, None)
cut_at text (Some place) = (take place text, Some (drop (place + 1) text))

-- a text cut at the first character that passes
abbrev pub cut : (ℕ → Bool) → List ℕ → List ℕ × Option (List ℕ)
cut passes text = cut_at text (position passes text)

-- a text by its parts: the sign, what stands before the dot, what follows the dot, and what follows the e
pub record Numeral : Type 0 where
  pub negative : Bool
  pub whole : List ℕ
  pub fraction : Option (List ℕ)
  pub exponent : Option (List ℕ)

-- a sign off the front, then a cut at the first e, then what stands before it is cut at the first dot
abbrev pub numeral_of : List ℕ → Numeral
numeral_of text =
    let number = cut is_exponent_mark (after_sign text) in
    let mantissa = cut is_dot number.0 in
    record { negative = is_negative text; whole = mantissa.0; fraction = mantissa.1; exponent = number.1 }

-- ---- which texts are numbers

-- [0-9]*
abbrev pub are_digits : List ℕ → Bool
are_digits text = list_all is_ascii_digit text

-- [0-9]+
abbrev pub are_some_digits : List ℕ → Bool
are_some_digits text = not (length text == 0) && are_digits text

-- a part, empty where it is missing
abbrev pub or_empty : Option (List ℕ) → List ℕ
or_empty part = unwrap_or part []

-- [19] INTEGER ::= [+-]? [0-9]+
abbrev pub is_integer : Numeral → Bool
is_integer n = is_none n.exponent && (is_none n.fraction && are_some_digits n.whole)

-- [20] DECIMAL ::= [+-]? [0-9]* '.' [0-9]+
abbrev pub is_decimal : Numeral → Bool
is_decimal n = is_none n.exponent && (are_digits n.whole && are_some_digits (or_empty n.fraction))

-- [21] DOUBLE ::= [+-]? ([0-9]+ '.' [0-9]* EXPONENT | '.' [0-9]+ EXPONENT | [0-9]+ EXPONENT), [154s] EXPONENT ::= [eE] [+-]? [0-9]+
abbrev pub is_double : Numeral → Bool
is_double n = are_some_digits (after_sign (or_empty n.exponent)) && are_some_digits (n.whole ++ or_empty n.fraction)

-- a text is a number by one of the three productions
abbrev pub is_number : Numeral → Bool
is_number n = is_integer n || (is_decimal n || is_double n)

-- ---- the value

-- a number with one more digit
abbrev pub with_digit : ℕ → ℕ → ℕ
with_digit number digit = 10 * number + (digit - 48)

-- the number that digits spell
abbrev pub number_of : List ℕ → ℕ
number_of text = fold with_digit 0 text

-- a number with its sign
abbrev pub signed : Bool → ℕ → ℤ
signed negative number = if negative then neg_ℤ (pos number) else pos number

-- the number that a sign and digits spell; 0 where there are none
abbrev pub signed_of : List ℕ → ℤ
signed_of text = signed (is_negative text) (number_of (after_sign text))

-- a number times a power of ten, with what is less than 1 dropped; negsuc n is the power -(n + 1)
abbrev pub scaled : ℕ → ℤ → ℕ
scaled number (pos n) = number * 10 ^ n
scaled number (negsuc n) = number / 10 ^ (n + 1)

-- a magnitude in units of 10^-18: all digits times 10^(exponent - length of the fraction), the 19th fraction digit and what follows it dropped
abbrev pub units_of : List ℕ → List ℕ → List ℕ → ℕ
units_of whole fraction exponent =
    scaled (number_of (whole ++ fraction)) (signed_of exponent +ℤ pos 18 -ℤ pos (length fraction))

-- units of 10^-18 in parts of 2^-24: units * 2^24 / 10^18 rounded to the nearest, a half up (a half has 25 fraction digits, so none is left)
abbrev pub parts_of : ℕ → ℕ
parts_of units = (2 * 2 ^ 24 * units + 10 ^ 18) / (2 * 10 ^ 18)

-- a number of parts, if it fits a signed 64-bit integer
abbrev pub in_range : ℤ → Result Fixed NumFault
in_range (pos n) = if nat_lt n (2 ^ 63) then Ok (record { 0 = pos n }) else Err Range
in_range (negsuc n) = if nat_lt n (2 ^ 63) then Ok (record { 0 = negsuc n }) else Err Range

-- the number that a text stands for. The sign comes last, so rounding is the same on both sides of 0.
-- Not an abbrev, so that no proof computes 10^exponent of a text that it knows
unfoldable pub fixed_of : List ℕ → Result Fixed NumFault
fixed_of text =
    let n = numeral_of text in
    if is_number n then in_range (signed n.negative (parts_of (units_of n.whole (or_empty n.fraction) (or_empty n.exponent))))
    else Err NotNumber
