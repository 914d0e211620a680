-- What digits spell: how large it is, and what their front spells.
use Rattle.std.proofs.Common.{◌≡◌, ℕ, suc, ◌+◌, ◌-◌, ◌*◌, ◌/◌, ◌^◌, ◌<◌, ◌≤◌, true, List, [], ◌∷◌, ◌++◌, length, take, drop, fold, sym, ◌∙◌, ap, subst, arith, length-drop}
use Rattle.std.proofs.lemmas.Bool.{and_parts, and_from}
use Rattle.std.proofs.lemmas.Bool.Decides.{nat_tests}
use Rattle.std.proofs.lemmas.List.{take-append-drop}
use Rattle.std.proofs.lemmas.List.Folds.{list_all-append}
use Rattle.std.proofs.lemmas.List.Sums.{fold-append}
use Rattle.std.proofs.lemmas.Nat.{div-mul-add}
use Rattle.std.proofs.Math.Nat.{pow-suc, mul-le-mul_right}
use Rattle.std.specs.Char.{is_ascii_digit}
use Rattle.lv_base.specs.Decimal.{are_digits, with_digit, number_of}

-- a digit is 0 to 9 above the code of 0
digit_within : (c : ℕ) → is_ascii_digit c ≡ true → (48 ≤ c) × (c ≤ 57)
digit_within c h = grind (arith, nat_tests)

-- both parts of a text of digits are digits
digits_parts : (a b : List ℕ) → are_digits (a ++ b) ≡ true → (are_digits a ≡ true) × (are_digits b ≡ true)
digits_parts a b h = and_parts (are_digits a) (are_digits b) (sym (list_all-append is_ascii_digit a b) ∙ h)

-- a number with n digits after it is below the next number with n zeros
fold-with_digit-lt : (text : List ℕ) (number : ℕ) → are_digits text ≡ true → fold with_digit number text < (number + 1) * 10 ^ length text
fold-with_digit-lt [] number h = omega arith
fold-with_digit-lt (c ∷ text) number h =
    let both : (is_ascii_digit c ≡ true) × (are_digits text ≡ true) = and_parts (is_ascii_digit c) (are_digits text) h in
    let n = 10 * number + (c - 48) in
    let zeros = 10 ^ length text in
    let rest : fold with_digit n text < (n + 1) * zeros = fold-with_digit-lt text n both.1 in
    let step : (n + 1) * zeros ≤ (10 * number + 10) * zeros = mul-le-mul_right zeros (omega (arith, (digit_within c both.0).1)) in
    let next : (number + 1) * 10 ^ suc (length text) ≡ (number + 1) * (zeros * 10) = ap (λ m. (number + 1) * m) (pow-suc 10 (length text)) in
    let below : fold with_digit n text < (number + 1) * 10 ^ suc (length text) = omega (arith, rest, step, next) in
    below

-- what digits spell after a number
fold-with_digit : (text : List ℕ) (number : ℕ) → fold with_digit number text ≡ number * 10 ^ length text + number_of text
fold-with_digit [] number = omega arith
fold-with_digit (c ∷ text) number =
    let digit = c - 48 in
    let zeros = 10 ^ length text in
    let whole : fold with_digit (10 * number + digit) text ≡ (10 * number + digit) * zeros + number_of text = fold-with_digit text (10 * number + digit) in
    let alone : fold with_digit (10 * 0 + digit) text ≡ (10 * 0 + digit) * zeros + number_of text = fold-with_digit text (10 * 0 + digit) in
    let next : number * 10 ^ suc (length text) ≡ number * (zeros * 10) = ap (λ m. number * m) (pow-suc 10 (length text)) in
    let same : fold with_digit (10 * number + digit) text ≡ number * 10 ^ suc (length text) + fold with_digit (10 * 0 + digit) text = omega (arith, whole, alone, next) in
    same

-- n digits spell a number below 10^n
pub number_of-lt : (text : List ℕ) → are_digits text ≡ true → number_of text < 10 ^ length text
number_of-lt text h = omega (arith, fold-with_digit-lt text 0 h)

-- without its last k digits a number is its quotient by 10^k
number_of-append : (a b : List ℕ) → are_digits (a ++ b) ≡ true → number_of a ≡ number_of (a ++ b) / 10 ^ length b
number_of-append a b h =
    let whole : number_of (a ++ b) ≡ number_of a * 10 ^ length b + number_of b = fold-append with_digit 0 a b ∙ fold-with_digit b (number_of a) in
    sym (ap (λ n. n / 10 ^ length b) whole ∙ div-mul-add (number_of a) (10 ^ length b) (number_of b) (number_of-lt b (digits_parts a b h).1))

-- the same of its first digits
pub number_of-take : (text : List ℕ) (k : ℕ) → are_digits text ≡ true → k ≤ length text → number_of (take (length text - k) text) ≡ number_of text / 10 ^ k
number_of-take text k h le =
    let n = length text - k in
    let same : take n text ++ drop n text ≡ text = take-append-drop n text in
    let count : length (drop n text) ≡ k = omega (arith, length-drop n text) in
    let P : List ℕ → Type 0 = λ t. are_digits t ≡ true in
    let cut : number_of (take n text) ≡ number_of (take n text ++ drop n text) / 10 ^ length (drop n text) =
    number_of-append (take n text) (drop n text) (subst P (sym same) h) in
    cut ∙ ap (λ t. number_of t / 10 ^ length (drop n text)) same ∙ ap (λ j. number_of text / 10 ^ j) count

-- the first digits of digits are digits
pub digits_take : (text : List ℕ) (n : ℕ) → are_digits text ≡ true → are_digits (take n text) ≡ true
digits_take text n h =
    let P : List ℕ → Type 0 = λ t. are_digits t ≡ true in
    (digits_parts (take n text) (drop n text) (subst P (sym (take-append-drop n text)) h)).0

-- digits after digits are digits
pub digits_append : (a b : List ℕ) → are_digits a ≡ true → are_digits b ≡ true → are_digits (a ++ b) ≡ true
digits_append a b p q = list_all-append is_ascii_digit a b ∙ and_from (are_digits a) (are_digits b) p q
