-- Classes of characters that share none.
use Rattle.std.proofs.Common.{◌≡◌, ◌⊎◌, ⊎_elim, ℕ, zero, suc, ◌<◌, Bool, true, false, not, ◌&&◌, ◌==◌, leb, refl, ap, ◌∙◌, arith}
use Rattle.std.proofs.lemmas.Bool.{leb-true}
use Rattle.std.specs.Char.{to_ascii_lowercase}
use Rattle.turtle_grammar.specs.Characters.{is_letter, is_digit, is_name_base, is_name_start}

-- a test that is true of each number below n
abbrev all_below : ℕ → (ℕ → Bool) → Bool
all_below zero test = true
all_below (suc n) test = test n && all_below n test

both_true : (x y : Bool) → x && y ≡ true → (x ≡ true) × (y ≡ true)
both_true true y e = (refl, e)
both_true false y e = cc

apart_at : (x y : Bool) → not (x && y) ≡ true → x ≡ true → y ≡ false
apart_at true true e f = cc
apart_at true false e f = refl
apart_at false y e f = cc

last_or_below : (c n : ℕ) → c < suc n → (c ≡ n) ⊎ (c < n)
last_or_below c n lt = grind arith

below : (n : ℕ) (test : ℕ → Bool) → all_below n test ≡ true → (c : ℕ) → c < n → test c ≡ true
below zero test e c lt = absurd (omega arith)
below (suc n) test e c lt =
    let k = both_true (test n) (all_below n test) e in
    ⊎_elim (λ same. ap test same ∙ k.0) (λ less. below n test k.1 c less) (last_or_below c n lt)

digit_small : (c : ℕ) → is_digit c ≡ true → c < 58
unfolding is_digit
digit_small c h = omega (arith, leb-true c 57 (both_true (leb 48 c) (leb c 57) h).1)

no_digit_starts : all_below 58 (λ c. not (is_digit c && is_name_start c)) ≡ true
unfolding is_digit is_name_start is_name_base is_letter
no_digit_starts = refl

pub digit_no_start : (c : ℕ) → is_digit c ≡ true → is_name_start c ≡ false
digit_no_start c h = apart_at (is_digit c) (is_name_start c) (below 58 (λ x. not (is_digit x && is_name_start x)) no_digit_starts c (digit_small c h)) h

no_digit_base : all_below 58 (λ c. not (is_digit c && is_name_base c)) ≡ true
unfolding is_digit is_name_base is_letter
no_digit_base = refl

pub digit_no_base : (c : ℕ) → is_digit c ≡ true → is_name_base c ≡ false
digit_no_base c h = apart_at (is_digit c) (is_name_base c) (below 58 (λ x. not (is_digit x && is_name_base x)) no_digit_base c (digit_small c h)) h

by_digit : (f : ℕ → Bool) (c : ℕ) (b : Bool) → is_digit c ≡ b → (is_digit c ≡ true → f c ≡ false) → f c ≡ true → is_digit c ≡ false
by_digit f c true e no_f h = absurd (let k = no_f e in cc)
by_digit f c false e no_f h = e

pub start_no_digit : (c : ℕ) → is_name_start c ≡ true → is_digit c ≡ false
start_no_digit c h = by_digit is_name_start c (is_digit c) refl (digit_no_start c) h

pub base_no_digit : (c : ℕ) → is_name_base c ≡ true → is_digit c ≡ false
base_no_digit c h = by_digit is_name_base c (is_digit c) refl (digit_no_base c) h

no_digit_lower : (k : ℕ) → all_below 58 (λ c. not (is_digit c && (to_ascii_lowercase c == k))) ≡ true → (c : ℕ) → is_digit c ≡ true → (to_ascii_lowercase c == k) ≡ false
no_digit_lower k e c h = apart_at (is_digit c) (to_ascii_lowercase c == k) (below 58 (λ x. not (is_digit x && (to_ascii_lowercase x == k))) e c (digit_small c h)) h

pub digit_no_p : (c : ℕ) → is_digit c ≡ true → (to_ascii_lowercase c == 112) ≡ false
unfolding is_digit
digit_no_p c h = no_digit_lower 112 refl c h

pub digit_no_b : (c : ℕ) → is_digit c ≡ true → (to_ascii_lowercase c == 98) ≡ false
unfolding is_digit
digit_no_b c h = no_digit_lower 98 refl c h
