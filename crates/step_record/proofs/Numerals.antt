-- The digits of a number say it again.
use Rattle.std.proofs.Common.{◌≡◌, ℕ, ◌+◌, ◌-◌, ◌*◌, ◌^◌, ◌<◌, List, [], ◌∷◌, ◌++◌, length, take, get_or, Some, None, refl, ap, ◌∙◌, arith, lt-ltb, cond, append_assoc}
use Rattle.std.specs.Prelude.{decimal, nat_lt, fold}
use Rattle.std.specs.Str.Parse.{AllDigits}
use Rattle.std.proofs.lemmas.Bool.{cond-true}
use Rattle.std.proofs.lemmas.Fmt.{decimal_is_IsNumeral, digits_value-decimal}
use Rattle.std.proofs.lemmas.List.Sums.{fold_more}
use Rattle.std.proofs.lemmas.Str.Parse.{IsNumeralModel, numerals_by_fold, tells_digits}
use Rattle.step_record.specs.Words.{value_of, number_in, word}
use Rattle.step_record.proofs.Cuts.{Unbroken, Unbroken-digits, word_at}

-- one digit more
pub value_of-more : (digits : List ℕ) (i : ℕ) → i < length digits → value_of (take (i + 1) digits) ≡ value_of (take i digits) * 10 + (get_or digits i 0 - 48)
value_of-more digits i h = fold_more (λ (sum digit : ℕ). sum * 10 + (digit - 48)) 0 digits i 0 h

own : IsNumeralModel (AllDigits 10) value_of
own = numerals_by_fold (AllDigits 10) tells_digits (λ n ds. fold (λ (value digit : ℕ). value * 10 + (digit - 48)) n ds) (record { empty = λ n. refl; more = λ n c cs k. refl })

-- a number is read from its digits
pub number_back : (n : ℕ) → n < 2 ^ 32 → number_in (decimal n) ≡ Some n
number_back n h =
    let wide : n < 2 ^ 64 = omega arith in
    ap (λ m. cond (nat_lt m (2 ^ 32)) (Some m) None) (digits_value-decimal own n wide)
    ∙ cond-true (nat_lt n (2 ^ 32)) (Some n) None (lt-ltb n (2 ^ 32) h)

pub Unbroken-decimal : (n : ℕ) → n < 2 ^ 32 → Unbroken (decimal n)
Unbroken-decimal n h = Unbroken-digits (decimal n) (decimal_is_IsNumeral n (omega arith)).0.1

-- at the end of a line
pub number_last : (n : ℕ) (after : List ℕ) → n < 2 ^ 32 → number_in (word (decimal n ++ 10 ∷ after)) ≡ Some n
number_last n after h = ap number_in (word_at (decimal n) 10 after (Unbroken-decimal n h) refl) ∙ number_back n h

pub number_end : (n : ℕ) (after : List ℕ) → n < 2 ^ 32 → number_in (word ((decimal n ++ 10 ∷ []) ++ after)) ≡ Some n
number_end n after h = ap (λ (x : List ℕ). number_in (word x)) (append_assoc (decimal n) (10 ∷ []) after) ∙ number_last n after h
