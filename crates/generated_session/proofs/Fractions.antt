-- A number below one that is written in three decimals is a decimal in range.
use Rattle.std.proofs.Common.{◌≡◌, ℕ, ◌+◌, ◌*◌, ◌/◌, ◌%◌, ◌^◌, ◌<◌, true, false, cond, pos, List, [], ◌∷◌, Some, None, Ok, refl, ap, ◌∙◌, arith, Err}
use Rattle.std.specs.Prelude.{nat_lt}
use Rattle.std.specs.Char.{is_ascii_digit}
use Rattle.std.proofs.lemmas.Bool.Decides.{nat_tests}
use borrow.Author.Tests.{lt-ltb}
use Rattle.lv_base.specs.declared.number.Fixed.{Fixed}
use Rattle.lv_base.specs.declared.decimal.NumFault.TheVariants.{NotNumber, Range}
use Rattle.lv_base.specs.Decimal.{Numeral, numeral_of, is_number, is_exponent_mark, are_digits, number_of, parts_of, units_of, or_empty, in_range, signed, fixed_of}
use Rattle.lv_base.proofs.Digits.{number_of-lt}
use Rattle.session_generate.specs.Lines.{digit, fraction}
use Rattle.generated_session.proofs.Texts.{is_mark, is_plain}

-- `0.` and three characters
abbrev below_one : ℕ → ℕ → ℕ → List ℕ
below_one a b c = 48 ∷ 46 ∷ a ∷ b ∷ c ∷ []

abbrev parts : ℕ → ℕ → ℕ → Numeral
parts a b c = record { negative = false; whole = 48 ∷ []; fraction = Some (a ∷ b ∷ c ∷ []); exponent = None }

numeral_below_one : (a b c : ℕ) → is_exponent_mark a ≡ false → is_exponent_mark b ≡ false → is_exponent_mark c ≡ false → numeral_of (below_one a b c) ≡ parts a b c
numeral_below_one a b c p q r = rw (p, q, r) refl

units : ℕ → ℕ → ℕ → ℕ
units a b c = number_of (48 ∷ a ∷ b ∷ c ∷ []) * 10 ^ 15

few_parts : (n : ℕ) → n < 10 ^ 4 → parts_of (n * 10 ^ 15) < 2 ^ 63
few_parts n h = omega (arith, h)

fixed_below_one : (a b c : ℕ) → is_ascii_digit a ≡ true → is_ascii_digit b ≡ true → is_ascii_digit c ≡ true
    → is_exponent_mark a ≡ false → is_exponent_mark b ≡ false → is_exponent_mark c ≡ false
    → fixed_of (below_one a b c) ≡ Ok (record { 0 = pos (parts_of (units a b c)) })
unfolding fixed_of units
fixed_below_one a b c p q r u v w =
    let all : are_digits (48 ∷ a ∷ b ∷ c ∷ []) ≡ true = rw (p, q, r) refl in
    let number : is_number (parts a b c) ≡ true = rw (p, q, r) refl in
    let few : nat_lt (parts_of (number_of (48 ∷ a ∷ b ∷ c ∷ []) * 10 ^ 15)) (2 ^ 63) ≡ true =
    lt-ltb _ _ (few_parts (number_of (48 ∷ a ∷ b ∷ c ∷ [])) (number_of-lt (48 ∷ a ∷ b ∷ c ∷ []) all)) in
    ap (λ (n : Numeral). cond (is_number n) (in_range (signed n.negative (parts_of (units_of n.whole (or_empty n.fraction) (or_empty n.exponent))))) (Err NotNumber)) (numeral_below_one a b c u v w)
    ∙ ap (λ t. cond t (in_range (pos (parts_of (number_of (48 ∷ a ∷ b ∷ c ∷ []) * 10 ^ 15)))) (Err NotNumber)) number
    ∙ ap (λ t. cond t (Ok (record { 0 = pos (parts_of (number_of (48 ∷ a ∷ b ∷ c ∷ []) * 10 ^ 15)) })) (Err Range)) few

digit_is : (n : ℕ) → n < 10 → (is_ascii_digit (48 + n) ≡ true) × (is_exponent_mark (48 + n) ≡ false) × (is_mark (48 + n) ≡ true)
digit_is n h = (grind (arith, nat_tests), grind (arith, nat_tests), grind (arith, nat_tests))

-- the digits of a fraction
abbrev first : ℕ → ℕ
first n = n / 100 % 10

abbrev second : ℕ → ℕ
second n = n / 10 % 10

abbrev third : ℕ → ℕ
third n = n % 10

small : (n : ℕ) → n % 10 < 10
small n = omega arith

-- the number of a fraction
pub fraction_value : ℕ → Fixed
fraction_value n = record { 0 = pos (parts_of (units (digit (first n)) (digit (second n)) (digit (third n)))) }

pub fraction_fits : (n : ℕ) → fixed_of (fraction n) ≡ Ok (fraction_value n)
unfolding fraction_value
fraction_fits n =
    let a = digit_is (first n) (small (n / 100)) in
    let b = digit_is (second n) (small (n / 10)) in
    let c = digit_is (third n) (small n) in
    fixed_below_one (digit (first n)) (digit (second n)) (digit (third n)) a.0 b.0 c.0 a.1 b.1 c.1

pub fraction_plain : (n : ℕ) → is_plain (fraction n) ≡ true
fraction_plain n =
    let a = digit_is (first n) (small (n / 100)) in
    let b = digit_is (second n) (small (n / 10)) in
    let c = digit_is (third n) (small n) in
    rw (a.2, b.2, c.2) refl
