-- What follows each character in a number.
use Rattle.std.proofs.Common.{◌≡◌, ℕ, true, false, ◌==◌, [], refl, ap, ◌∙◌}
use Rattle.turtle_grammar.specs.Characters.{is_digit, is_exponent, is_sign}
use Rattle.turtle_lex.specs.Picks.{all_after, alive, Loops}
use Rattle.turtle_lex.specs.Numbers.{unsigned, whole, dot, first_dot, fraction, exponent_sign, exponent_digits, exponent_rest}
use Rattle.turtle_lex.proofs.Bodies.{plain_only}

digit_no_exponent : (c : ℕ) → is_digit c ≡ true → is_exponent c ≡ false
unfolding is_digit is_exponent
digit_no_exponent c h = rw (plain_only is_digit c 101 refl h, plain_only is_digit c 69 refl h) refl

digit_no_sign : (c : ℕ) → is_digit c ≡ true → is_sign c ≡ false
unfolding is_digit is_sign
digit_no_sign c h = rw (plain_only is_digit c 43 refl h, plain_only is_digit c 45 refl h) refl

digit_no_dot : (c : ℕ) → is_digit c ≡ true → (c == 46) ≡ false
unfolding is_digit
digit_no_dot c h = plain_only is_digit c 46 refl h

exponent_no_dot : (c : ℕ) → is_exponent c ≡ true → (c == 46) ≡ false
unfolding is_exponent
exponent_no_dot c h = plain_only is_exponent c 46 refl h

rest_digit_by : (c : ℕ) → is_digit c ≡ true → alive (all_after c exponent_rest) ≡ exponent_rest
rest_digit_by c h0 = rw (h0) refl

pub rest_other : (c : ℕ) → is_digit c ≡ false → alive (all_after c exponent_rest) ≡ []
rest_other c h0 = rw (h0) refl

pub digits_digit : (c : ℕ) → is_digit c ≡ true → alive (all_after c exponent_digits) ≡ exponent_rest
digits_digit c h0 = rw (h0) refl

pub digits_other : (c : ℕ) → is_digit c ≡ false → alive (all_after c exponent_digits) ≡ []
digits_other c h0 = rw (h0) refl

sign_digit_by : (c : ℕ) → is_digit c ≡ true → is_sign c ≡ false → alive (all_after c exponent_sign) ≡ exponent_rest
sign_digit_by c h0 h1 = rw (h0, h1) refl

pub sign_sign : (c : ℕ) → is_digit c ≡ false → is_sign c ≡ true → alive (all_after c exponent_sign) ≡ exponent_digits
sign_sign c h0 h1 = rw (h0, h1) refl

pub sign_other : (c : ℕ) → is_digit c ≡ false → is_sign c ≡ false → alive (all_after c exponent_sign) ≡ []
sign_other c h0 h1 = rw (h0, h1) refl

fraction_digit_by : (c : ℕ) → is_digit c ≡ true → is_exponent c ≡ false → alive (all_after c fraction) ≡ fraction
fraction_digit_by c h0 h1 = rw (h0, h1) refl

pub fraction_exponent : (c : ℕ) → is_digit c ≡ false → is_exponent c ≡ true → alive (all_after c fraction) ≡ exponent_sign
fraction_exponent c h0 h1 = rw (h0, h1) refl

pub fraction_other : (c : ℕ) → is_digit c ≡ false → is_exponent c ≡ false → alive (all_after c fraction) ≡ []
fraction_other c h0 h1 = rw (h0, h1) refl

dot_digit_by : (c : ℕ) → is_digit c ≡ true → is_exponent c ≡ false → alive (all_after c dot) ≡ fraction
dot_digit_by c h0 h1 = rw (h0, h1) refl

pub dot_exponent : (c : ℕ) → is_digit c ≡ false → is_exponent c ≡ true → alive (all_after c dot) ≡ exponent_sign
dot_exponent c h0 h1 = rw (h0, h1) refl

pub dot_other : (c : ℕ) → is_digit c ≡ false → is_exponent c ≡ false → alive (all_after c dot) ≡ []
dot_other c h0 h1 = rw (h0, h1) refl

first_dot_digit_by : (c : ℕ) → is_digit c ≡ true → alive (all_after c first_dot) ≡ fraction
first_dot_digit_by c h0 = rw (h0) refl

pub first_dot_other : (c : ℕ) → is_digit c ≡ false → alive (all_after c first_dot) ≡ []
first_dot_other c h0 = rw (h0) refl

whole_digit_by : (c : ℕ) → is_digit c ≡ true → (c == 46) ≡ false → is_exponent c ≡ false → alive (all_after c whole) ≡ whole
whole_digit_by c h0 h1 h2 = rw (h0, h1, h2) refl

whole_exponent_by : (c : ℕ) → is_digit c ≡ false → (c == 46) ≡ false → is_exponent c ≡ true → alive (all_after c whole) ≡ exponent_sign
whole_exponent_by c h0 h1 h2 = rw (h0, h1, h2) refl

pub whole_other : (c : ℕ) → is_digit c ≡ false → (c == 46) ≡ false → is_exponent c ≡ false → alive (all_after c whole) ≡ []
whole_other c h0 h1 h2 = rw (h0, h1, h2) refl

unsigned_digit_by : (c : ℕ) → is_digit c ≡ true → (c == 46) ≡ false → alive (all_after c unsigned) ≡ whole
unsigned_digit_by c h0 h1 = rw (h0, h1) refl

pub unsigned_other : (c : ℕ) → is_digit c ≡ false → (c == 46) ≡ false → alive (all_after c unsigned) ≡ []
unsigned_other c h0 h1 = rw (h0, h1) refl

whole_dot_by : alive (all_after 46 whole) ≡ dot
unfolding is_digit is_exponent
whole_dot_by = refl

unsigned_dot_by : alive (all_after 46 unsigned) ≡ first_dot
unfolding is_digit is_exponent
unsigned_dot_by = refl

pub whole_dot : (c : ℕ) → c ≡ 46 → alive (all_after c whole) ≡ dot
whole_dot c e = ap (λ x. alive (all_after x whole)) e ∙ whole_dot_by

pub unsigned_dot : (c : ℕ) → c ≡ 46 → alive (all_after c unsigned) ≡ first_dot
unsigned_dot c e = ap (λ x. alive (all_after x unsigned)) e ∙ unsigned_dot_by

pub sign_digit : (c : ℕ) → is_digit c ≡ true → alive (all_after c exponent_sign) ≡ exponent_rest
sign_digit c h = sign_digit_by c h (digit_no_sign c h)

pub dot_digit : (c : ℕ) → is_digit c ≡ true → alive (all_after c dot) ≡ fraction
dot_digit c h = dot_digit_by c h (digit_no_exponent c h)

pub first_dot_digit : (c : ℕ) → is_digit c ≡ true → alive (all_after c first_dot) ≡ fraction
first_dot_digit c h = first_dot_digit_by c h

pub unsigned_digit : (c : ℕ) → is_digit c ≡ true → alive (all_after c unsigned) ≡ whole
unsigned_digit c h = unsigned_digit_by c h (digit_no_dot c h)

pub whole_exponent : (c : ℕ) → is_digit c ≡ false → is_exponent c ≡ true → alive (all_after c whole) ≡ exponent_sign
whole_exponent c d h = whole_exponent_by c d (exponent_no_dot c h) h

pub rest_loops : Loops is_digit exponent_rest
rest_loops = record { stays = rest_digit_by; sole = tt }

pub fraction_loops : Loops is_digit fraction
fraction_loops = record { stays = λ c h. fraction_digit_by c h (digit_no_exponent c h); sole = tt }

pub whole_loops : Loops is_digit whole
whole_loops = record { stays = λ c h. whole_digit_by c h (digit_no_dot c h) (digit_no_exponent c h); sole = tt }
