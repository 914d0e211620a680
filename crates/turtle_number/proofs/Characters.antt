-- The characters of numbers.
use Rattle.std.proofs.Common.{◌≡◌, ◌⊎◌, inl, inr, ℕ, ◌<◌, ◌≤◌, ◌==◌, Bool, true, false, not, ◌&&◌, ◌||◌, List, [], ◌∷◌, refl, ap, ◌∙◌, arith, eqb-true, leb-true, true≢false}
use Rattle.std.specs.Char.{is_ascii_digit}
use Rattle.std.specs.List.{list_all}
use Rattle.std.proofs.lemmas.Bool.{and_parts, false_from_ne_true}
use Rattle.lv_base.specs.Decimal.{is_sign, is_dot, is_exponent_mark, are_digits}
use Rattle.turtle_grammar.specs.Characters.{is_digit, is_sign as is_sign_char, is_exponent}

pub digit_same : (c : ℕ) → is_ascii_digit c ≡ is_digit c
unfolding is_digit
digit_same c = refl

or_none : (b c : Bool) → (b || c) ≡ (b || (c || false))
or_none true c = refl
or_none false true = refl
or_none false false = refl

pub sign_same : (c : ℕ) → is_sign c ≡ is_sign_char c
unfolding is_sign_char
sign_same c = or_none (c == 43) (c == 45)

swapped : (b c : Bool) → (b || c) ≡ (c || (b || false))
swapped true true = refl
swapped true false = refl
swapped false true = refl
swapped false false = refl

pub mark_same : (c : ℕ) → is_exponent_mark c ≡ is_exponent c
unfolding is_exponent
mark_same c = swapped (c == 69) (c == 101)

-- a digit is no other character
digit_is_not : (c d : ℕ) → is_ascii_digit c ≡ true → (d < 48) ⊎ (57 < d) → (c == d) ≡ false
digit_is_not c d is other =
    let both = and_parts _ _ is in
    false_from_ne_true (c == d) (λ e. apart (eqb-true c d e) (leb-true 48 c both.0) (leb-true c 57 both.1) other)
  where
    apart : c ≡ d → 48 ≤ c → c ≤ 57 → (d < 48) ⊎ (57 < d) → ⊥
    apart e low high (inl less) = omega arith
    apart e low high (inr more) = omega arith

neither : (a b : Bool) → a ≡ false → b ≡ false → (a || b) ≡ false
neither false false p q = refl
neither true b p q = absurd (true≢false p)
neither false true p q = absurd (true≢false q)

pub digit_is_no_sign : (c : ℕ) → is_ascii_digit c ≡ true → is_sign c ≡ false
digit_is_no_sign c is = neither (c == 43) (c == 45) (digit_is_not c 43 is (inl (omega arith))) (digit_is_not c 45 is (inl (omega arith)))

pub digit_is_no_dot : (c : ℕ) → is_ascii_digit c ≡ true → is_dot c ≡ false
digit_is_no_dot c is = digit_is_not c 46 is (inl (omega arith))

pub digit_is_no_mark : (c : ℕ) → is_ascii_digit c ≡ true → is_exponent_mark c ≡ false
digit_is_no_mark c is = neither (c == 69) (c == 101) (digit_is_not c 69 is (inr (omega arith))) (digit_is_not c 101 is (inr (omega arith)))

-- so digits have none of them
module _ (p : ℕ → Bool) (never : (c : ℕ) → is_ascii_digit c ≡ true → p c ≡ false) where
  pub digits_have_none : (text : List ℕ) → are_digits text ≡ true → list_all (λ c. not (p c)) text ≡ true
  digits_have_none [] all = refl
  digits_have_none (c ∷ text) all =
      let both = and_parts (is_ascii_digit c) (are_digits text) all in
      ap (λ b. not b && list_all (λ c. not (p c)) text) (never c both.0) ∙ digits_have_none text both.1
