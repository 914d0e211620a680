-- A number times a power of ten, by its first digits.
use Rattle.std.proofs.Common.{◌≡◌, ℕ, ◌+◌, ◌-◌, ◌*◌, ◌/◌, ◌^◌, ◌<◌, ◌≤◌, min, Bool, true, false, cond, List, ◌++◌, length, take, sym, ◌∙◌, ap, ⊎_elim, arith, length-append, ℤ, pos, negsuc, ◌+ℤ◌, ◌-ℤ◌, neg_ℤ}
use Rattle.std.proofs.lemmas.Bool.{cases_lt}
use Rattle.std.proofs.lemmas.Int.{ints}
use Rattle.std.proofs.lemmas.List.{take_all}
use Rattle.std.proofs.lemmas.Nat.{pow-add}
use Rattle.std.proofs.Math.Nat.{mul-div_cancel, mul-div-mul_right, div-eq_of_lt, pow-le-pow_right, one-le-pow, mul_assoc}
use Rattle.lv_base.specs.Decimal.{are_digits, number_of, scaled, signed, units_of, is_negative, after_sign}
use Rattle.lv_base.specs.Leading.{leading, digits_kept, capped}
use Rattle.lv_base.proofs.Digits.{number_of-lt, number_of-take, digits_append}
use Rattle.lv_base.proofs.Caps.{min-zeros}

-- a power of ten is not 0
pow_ten : (n : ℕ) → 0 < 10 ^ n
pow_ten n = one-le-pow n 10 (omega arith)

-- times 10^a and divided by 10^b, where b is less
up : (number a b c : ℕ) → a ≡ c + b → number * 10 ^ a / 10 ^ b ≡ number * 10 ^ c
up number a b c e =
    ap (λ n. number * 10 ^ n / 10 ^ b) e
    ∙ ap (λ n. number * n / 10 ^ b) (pow-add 10 c b)
    ∙ ap (λ n. n / 10 ^ b) (sym (mul_assoc number (10 ^ c) (10 ^ b)))
    ∙ mul-div_cancel (number * 10 ^ c) (pow_ten b)

-- and where b is more
down : (number a b c : ℕ) → b ≡ c + a → number * 10 ^ a / 10 ^ b ≡ number / 10 ^ c
down number a b c e =
    ap (λ n. number * 10 ^ a / 10 ^ n) e
    ∙ ap (λ n. number * 10 ^ a / n) (pow-add 10 c a)
    ∙ mul-div-mul_right number (10 ^ c) (pow_ten a)

-- 10^(a - b) as a quotient, where b is more
scaled_down : (number a b : ℕ) (scale : ℤ) → scale ≡ pos a -ℤ pos b → a < b → scaled number scale ≡ number * 10 ^ a / 10 ^ b
scaled_down number a b scale e less =
    let power : scale ≡ negsuc (b - a - 1) = omega (arith, ints, e) in
    ap (scaled number) power ∙ sym (down number a b (b - a - 1 + 1) (omega arith))

-- and as a product, where it isn't
scaled_up : (number a b : ℕ) (scale : ℤ) → scale ≡ pos a -ℤ pos b → b ≤ a → scaled number scale ≡ number * 10 ^ a / 10 ^ b
scaled_up number a b scale e more =
    let power : scale ≡ pos (a - b) = omega (arith, ints, e) in
    ap (scaled number) power ∙ sym (up number a b (a - b) (omega arith))

-- 10^(a - b) as a product and a quotient
pub scaled_is : (number a b : ℕ) (scale : ℤ) → scale ≡ pos a -ℤ pos b → scaled number scale ≡ number * 10 ^ a / 10 ^ b
scaled_is number a b scale e = ⊎_elim (scaled_down number a b scale e) (scaled_up number a b scale e) (cases_lt a b)

-- the dot moves past all digits to the left: none counts
leading_none : (digits : List ℕ) (a b : ℕ) → are_digits digits ≡ true → length digits + a < b
    → leading (length digits + a - b) digits ≡ number_of digits * 10 ^ a / 10 ^ b
leading_none digits a b h past =
    let n = length digits in
    let none : n + a - b ≡ 0 = omega arith in
    let nothing : 0 * 10 ^ (0 - n) ≡ 0 = omega arith in
    let below : number_of digits < 10 ^ (b - a) = omega (arith, number_of-lt digits h, pow-le-pow_right {n = 10} (omega arith) {i = n} {j = b - a} (omega arith)) in
    ap (λ keep. leading keep digits) none ∙ nothing ∙ sym (down (number_of digits) a b (b - a) (omega arith) ∙ div-eq_of_lt below)

-- it moves within them: the first ones count
leading_front : (digits : List ℕ) (a b : ℕ) → are_digits digits ≡ true → a < b → b ≤ length digits + a
    → leading (length digits + a - b) digits ≡ number_of digits * 10 ^ a / 10 ^ b
leading_front digits a b h less within =
    let n = length digits in
    let keep : n + a - b ≡ n - (b - a) = omega arith in
    let zeros : n - (b - a) - n ≡ 0 = omega arith in
    ap (λ keep. leading keep digits) keep
    ∙ ap (λ z. number_of (take (n - (b - a)) digits) * 10 ^ z) zeros
    ∙ omega (arith, number_of-take digits (b - a) h (omega arith), down (number_of digits) a b (b - a) (omega arith))

-- it moves to the right: all count, and zeros after them
leading_all : (digits : List ℕ) (a b : ℕ) → b ≤ a → leading (length digits + a - b) digits ≡ number_of digits * 10 ^ a / 10 ^ b
leading_all digits a b more =
    let n = length digits in
    let zeros : n + a - b - n ≡ a - b = omega arith in
    let all : take (n + a - b) digits ≡ digits = take_all (n + a - b) digits (omega arith) in
    ap (λ z. number_of (take (n + a - b) digits) * 10 ^ z) zeros
    ∙ ap (λ t. number_of t * 10 ^ (a - b)) all
    ∙ sym (up (number_of digits) a b (a - b) (omega arith))

-- the first digits, or all with zeros, spell the number times 10^a / 10^b
pub leading_is : (digits : List ℕ) (a b : ℕ) → are_digits digits ≡ true → leading (length digits + a - b) digits ≡ number_of digits * 10 ^ a / 10 ^ b
leading_is digits a b h =
    ⊎_elim
    (λ less. ⊎_elim (leading_none digits a b h) (leading_front digits a b h less) (cases_lt (length digits + a) b))
    (leading_all digits a b)
    (cases_lt a b)

-- the digits that count, where the exponent moves the dot to the left or to the right
units_by : (negative : Bool) (moved whole fraction : ℕ) (digits : List ℕ) → are_digits digits ≡ true → length digits ≡ whole + fraction
    → scaled (number_of digits) (signed negative moved +ℤ pos 18 -ℤ pos fraction) ≡ leading (cond negative (whole + 18 - moved) (whole + 18 + moved)) digits
units_by true moved whole fraction digits h e =
    scaled_is (number_of digits) 18 (fraction + moved) (neg_ℤ (pos moved) +ℤ pos 18 -ℤ pos fraction) (omega (arith, ints))
    ∙ sym (leading_is digits 18 (fraction + moved) h)
    ∙ ap (λ keep. leading keep digits) (omega arith)
units_by false moved whole fraction digits h e =
    scaled_is (number_of digits) (18 + moved) fraction (pos moved +ℤ pos 18 -ℤ pos fraction) (omega (arith, ints))
    ∙ sym (leading_is digits (18 + moved) fraction h)
    ∙ ap (λ keep. leading keep digits) (omega arith)

-- units are the digits that count
pub units_are : (whole fraction exponent : List ℕ) → are_digits (whole ++ fraction) ≡ true
    → units_of whole fraction exponent ≡ leading (digits_kept (length whole) exponent) (whole ++ fraction)
units_are whole fraction exponent h =
    units_by (is_negative exponent) (number_of (after_sign exponent)) (length whole) (length fraction) (whole ++ fraction) h (length-append whole fraction)

-- where more digits are kept than there can be, only zeros differ
leading_past : (digits : List ℕ) (keep most : ℕ) → length digits + 30 ≤ most → most < keep → capped (leading most digits) ≡ capped (leading keep digits)
leading_past digits keep most room past =
    let n = length digits in
    ap (λ t. capped (number_of t * 10 ^ (most - n))) (take_all most digits (omega arith))
    ∙ min-zeros (number_of digits) 30 (most - n) (keep - n) (omega arith) (omega arith)
    ∙ ap (λ t. capped (number_of t * 10 ^ (keep - n))) (sym (take_all keep digits (omega arith)))

-- so the count of digits may be capped too
pub leading-min : (digits : List ℕ) (keep most : ℕ) → length digits + 30 ≤ most → capped (leading (min keep most) digits) ≡ capped (leading keep digits)
leading-min digits keep most room =
    let same : keep ≤ most → min keep most ≡ keep = λ le. omega arith in
    let most_of : most < keep → min keep most ≡ most = λ past. omega arith in
    ⊎_elim
    (λ past. ap (λ k. capped (leading k digits)) (most_of past) ∙ leading_past digits keep most room past)
    (λ le. ap (λ k. capped (leading k digits)) (same le))
    (cases_lt most keep)

-- a text's parts are short, so what is kept of an exponent that is capped is what is kept of the whole exponent
pub units_capped : (whole fraction exponent : List ℕ) (most : ℕ) → are_digits whole ≡ true → are_digits fraction ≡ true → length whole + length fraction + 30 ≤ most
    → capped (leading (min (digits_kept (length whole) exponent) most) (whole ++ fraction)) ≡ capped (units_of whole fraction exponent)
units_capped whole fraction exponent most p q room =
    leading-min (whole ++ fraction) (digits_kept (length whole) exponent) most (omega (arith, length-append whole fraction))
    ∙ ap capped (sym (units_are whole fraction exponent (digits_append whole fraction p q)))
