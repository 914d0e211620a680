-- What the first digits of a number in two parts spell.
use Rattle.std.proofs.Common.{◌≡◌, ℕ, ◌+◌, ◌-◌, ◌*◌, ◌^◌, ◌<◌, ◌≤◌, min, List, ◌++◌, length, take, fold, sym, ◌∙◌, ap, ⊎_elim, arith, length-append}
use Rattle.std.proofs.lemmas.Bool.{cases_lt}
use Rattle.std.proofs.lemmas.List.{take_all, take_min, take-append-le, append-nil}
use Rattle.std.proofs.lemmas.List.Sums.{fold-append}
use Rattle.std.proofs.Math.Seq.{take-append-add}
use Rattle.lv_base.specs.Decimal.{with_digit, number_of}
use Rattle.lv_base.specs.Leading.{leading, capped}
use Rattle.lv_base.proofs.Caps.{capped_fold, capped_power}

-- the first elements of a list in two parts, where they are within the first part
front_within : (a b : List ℕ) (n : ℕ) → n < length a → take n (a ++ b) ≡ take n a ++ take (n - length a) b
front_within a b n within =
    let none : n - length a ≡ 0 = omega arith in
    take-append-le n a b (omega arith) ∙ sym (ap (λ k. take n a ++ take k b) none ∙ append-nil (take n a))

-- and where they reach past it
front_past : (a b : List ℕ) (n : ℕ) → length a ≤ n → take n (a ++ b) ≡ take n a ++ take (n - length a) b
front_past a b n past =
    let count : length a + (n - length a) ≡ n = omega arith in
    ap (λ k. take k (a ++ b)) (sym count) ∙ take-append-add a b (n - length a) ∙ ap (λ t. t ++ take (n - length a) b) (sym (take_all n a past))

-- the first elements of a list in two parts
front-append : (a b : List ℕ) (n : ℕ) → take n (a ++ b) ≡ take n a ++ take (n - length a) b
front-append a b n = ⊎_elim (front_within a b n) (front_past a b n) (cases_lt n (length a))

-- the first digits, read from the two parts of a number and capped at each step
pub leading_parts : (whole fraction : List ℕ) (keep of_whole of_fraction first number result : ℕ)
    → of_whole ≡ min keep (length whole) → of_fraction ≡ min (keep - of_whole) (length fraction)
    → first ≡ capped (fold with_digit 0 (take of_whole whole)) → number ≡ capped (fold with_digit first (take of_fraction fraction))
    → result ≡ capped (number * 10 ^ (keep - of_whole - of_fraction))
    → result ≡ capped (leading keep (whole ++ fraction))
leading_parts whole fraction keep of_whole of_fraction first number result e f g h r =
    let front = take of_whole whole in
    let back = take of_fraction fraction in
    let zeros = keep - of_whole - of_fraction in
    let rest : of_fraction ≡ min (keep - length whole) (length fraction) = omega arith in
    let left : zeros ≡ keep - length (whole ++ fraction) = omega (arith, length-append whole fraction) in
    let whole_front : front ≡ take keep whole = ap (λ k. take k whole) e ∙ take_min keep whole in
    let fraction_front : back ≡ take (keep - length whole) fraction = ap (λ k. take k fraction) rest ∙ take_min (keep - length whole) fraction in
    let digits : front ++ back ≡ take keep (whole ++ fraction) = ap (λ t. t ++ back) whole_front ∙ ap (λ t. take keep whole ++ t) fraction_front ∙ sym (front-append whole fraction keep) in
    let joined : fold with_digit (number_of front) back ≡ number_of (front ++ back) = sym (fold-append with_digit 0 front back) in
    let spelled : number ≡ capped (number_of (front ++ back)) = h ∙ ap (λ n. capped (fold with_digit n back)) g ∙ capped_fold back (number_of front) ∙ ap capped joined in
    r
    ∙ ap (λ n. capped (n * 10 ^ zeros)) spelled
    ∙ capped_power (number_of (front ++ back)) zeros
    ∙ ap (λ t. capped (number_of t * 10 ^ zeros)) digits
    ∙ ap (λ z. capped (number_of (take keep (whole ++ fraction)) * 10 ^ z)) left
