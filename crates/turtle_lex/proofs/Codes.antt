-- The digits of an escaped character, one after another.
use Rattle.std.proofs.Common.{◌≡◌, ℕ, zero, suc, ◌-◌, ◌<◌, Bool, true, false, not, ◌&&◌, ◌==◌, codes, List, [], ◌∷◌, refl, sym, subst, Ok, Err, arith}
use Rattle.turtle_grammar.specs.Pattern.{Pattern, fails, nothing, one, ◌then◌, is_empty, after, in_row, times, char}
use Rattle.turtle_grammar.specs.Characters.{among, within, is_hex, is_digit, is_escape}
use Rattle.turtle_grammar.specs.Terminals.{hex, is_hex_but_d, short_code, long_code}
use Rattle.turtle_lex.specs.Enclosure.{low_plane_code, plane_code, escape_rest, letter_escape}
use Rattle.turtle_lex.specs.declared.enclosure.Enclosure.{Enclosure}
use Rattle.turtle_lex.specs.declared.enclosure.Enclosure.TheVariants.{Angle, Double, Single, LongDouble, LongSingle}
use Rattle.turtle_grammar.proofs.Derivatives.{sound}
use Rattle.turtle_grammar.specs.Tokens.{Begins}
use Rattle.turtle_lex.specs.Scans.{Goes, Stops, LeadsInside, IsFrame}
use Rattle.turtle_lex.specs.Digits.{digit_class}
use Rattle.turtle_lex.specs.declared.escape.Digit.{Digit}
use Rattle.turtle_lex.specs.declared.escape.Digit.TheVariants.{Hex, Octal, Zero}
use Rattle.turtle_lex.specs.declared.stop.Stop.{Stop}
use Rattle.turtle_lex.proofs.Inside.{in_row_live, frame_then}

pub one_yes : (f : ℕ → Bool) (c : ℕ) → f c ≡ true → after c (one f) ≡ nothing
one_yes f c e = rw e refl

pub one_no : (f : ℕ → Bool) (c : ℕ) → f c ≡ false → after c (one f) ≡ fails
one_no f c e = rw e refl

-- a zero is a digit of each kind
pub digit_live : (d : Digit) → Begins (one (digit_class d)) []
unfolding is_hex is_digit
digit_live Hex = (48 ∷ [], (48, refl, refl))
digit_live Octal = (48 ∷ [], (48, refl, refl))
digit_live Zero = (48 ∷ [], (48, refl, refl))

pub hexes_live : (n : ℕ) → Begins (times n hex) []
hexes_live zero = ([], refl)
hexes_live (suc zero) = digit_live Hex
hexes_live (suc (suc n)) = in_row_live hex (times (suc n) hex) (digit_live Hex) (hexes_live (suc n))

-- so many digits are still wanted, and one comes
some_less : (left : ℕ) (text : List ℕ) (at mid : ℕ) → LeadsInside hex text at (Ok mid)
    → (frame : Pattern → Pattern) → IsFrame frame → Goes (frame (times (suc left) hex)) (frame (times left hex)) text at mid
some_less zero text at mid h frame f = h frame f
some_less (suc n) text at mid h frame f = h (λ x. frame (in_row x (times (suc n) hex))) (frame_then frame (times (suc n) hex) f (hexes_live (suc n)))

pub one_less : (left : ℕ) (text : List ℕ) (at mid : ℕ) → 0 < left → LeadsInside hex text at (Ok mid)
    → (frame : Pattern → Pattern) → IsFrame frame → Goes (frame (times left hex)) (frame (times (left - 1) hex)) text at mid
one_less zero text at mid lt h frame f = absurd (omega arith)
one_less (suc n) text at mid lt h frame f =
    let e : suc n - 1 ≡ n = omega arith in
    let P : ℕ → Type 0 = λ k. Goes (frame (times (suc n) hex)) (frame (times k hex)) text at mid in
    subst P (sym e) (some_less n text at mid h frame f)

some_stop : (left : ℕ) (text : List ℕ) (at : ℕ) (stop : Stop) → LeadsInside hex text at (Err stop)
    → (frame : Pattern → Pattern) → IsFrame frame → Stops (frame (times (suc left) hex)) text at stop
some_stop zero text at stop h frame f = h frame f
some_stop (suc n) text at stop h frame f = h (λ x. frame (in_row x (times (suc n) hex))) (frame_then frame (times (suc n) hex) f (hexes_live (suc n)))

pub one_stop : (left : ℕ) (text : List ℕ) (at : ℕ) (stop : Stop) → 0 < left → LeadsInside hex text at (Err stop)
    → (frame : Pattern → Pattern) → IsFrame frame → Stops (frame (times left hex)) text at stop
one_stop zero text at stop lt h frame f = absurd (omega arith)
one_stop (suc n) text at stop lt h frame f = some_stop n text at stop h frame f

and_not : (x y : Bool) → x && not y ≡ true → y ≡ false
and_not true true e = cc
and_not true false e = refl
and_not false y e = cc

-- What follows a character in each code.
pub short_after_d : (c : ℕ) → is_hex_but_d c ≡ false → among (codes "Dd") c ≡ true → after c short_code ≡ one (within 48 55) then times 2 hex
short_after_d c e k = rw (e, k) refl

short_by_hex : (c : ℕ) → is_hex_but_d c ≡ true → among (codes "Dd") c ≡ false → after c short_code ≡ times 3 hex
short_by_hex c e k = rw (e, k) refl

pub short_after_hex : (c : ℕ) → is_hex_but_d c ≡ true → after c short_code ≡ times 3 hex
short_after_hex c e = short_by_hex c e (and_not (is_hex c) (among (codes "Dd") c) e)

pub short_after_other : (c : ℕ) → is_hex_but_d c ≡ false → among (codes "Dd") c ≡ false → after c short_code ≡ fails
short_after_other c e k = rw (e, k) refl

pub low_after_zero : (c : ℕ) → c ≡ 48 → after c low_plane_code ≡ short_code
unfolding is_hex is_digit
low_after_zero c e = rw e refl

pub low_after_hex : (c : ℕ) → (c == 48) ≡ false → is_hex c ≡ true → after c low_plane_code ≡ times 4 hex
low_after_hex c e k = rw (e, k) refl

pub low_after_other : (c : ℕ) → (c == 48) ≡ false → is_hex c ≡ false → after c low_plane_code ≡ fails
low_after_other c e k = rw (e, k) refl

pub plane_after_one : (c : ℕ) → c ≡ 49 → after c plane_code ≡ char 48 then times 4 hex
plane_after_one c e = rw e refl

pub plane_after_zero : (c : ℕ) → c ≡ 48 → after c plane_code ≡ low_plane_code
plane_after_zero c e = rw e refl

pub plane_after_other : (c : ℕ) → (c == 49) ≡ false → (c == 48) ≡ false → after c plane_code ≡ fails
plane_after_other c e k = rw (e, k) refl

pub escape_after_u : (e : Enclosure) (c : ℕ) → c ≡ 117 → after c (escape_rest e) ≡ short_code
unfolding is_escape
escape_after_u Angle c k = rw k refl
escape_after_u Double c k = rw k refl
escape_after_u Single c k = rw k refl
escape_after_u LongDouble c k = rw k refl
escape_after_u LongSingle c k = rw k refl

pub escape_after_long_u : (e : Enclosure) (c : ℕ) → c ≡ 85 → after c (escape_rest e) ≡ long_code
unfolding is_escape
escape_after_long_u Angle c k = rw k refl
escape_after_long_u Double c k = rw k refl
escape_after_long_u Single c k = rw k refl
escape_after_long_u LongDouble c k = rw k refl
escape_after_long_u LongSingle c k = rw k refl

pub escape_after_letter : (e : Enclosure) (c : ℕ) → (c == 117) ≡ false → (c == 85) ≡ false → letter_escape e c ≡ true → after c (escape_rest e) ≡ nothing
escape_after_letter Angle c u v k = cc
escape_after_letter Double c u v k = rw (u, v, k) refl
escape_after_letter Single c u v k = rw (u, v, k) refl
escape_after_letter LongDouble c u v k = rw (u, v, k) refl
escape_after_letter LongSingle c u v k = rw (u, v, k) refl

pub escape_after_other : (e : Enclosure) (c : ℕ) → (c == 117) ≡ false → (c == 85) ≡ false → letter_escape e c ≡ false → after c (escape_rest e) ≡ fails
escape_after_other Angle c u v k = rw (u, v) refl
escape_after_other Double c u v k = rw (u, v, k) refl
escape_after_other Single c u v k = rw (u, v, k) refl
escape_after_other LongDouble c u v k = rw (u, v, k) refl
escape_after_other LongSingle c u v k = rw (u, v, k) refl

-- Each code has a text.
pub short_live : Begins short_code []
unfolding is_hex is_digit
short_live = (codes "0000", sound short_code (codes "0000") refl)

pub low_live : Begins low_plane_code []
unfolding is_hex is_digit
low_live = (codes "00000", sound low_plane_code (codes "00000") refl)

pub plane_live : Begins plane_code []
unfolding is_hex is_digit
plane_live = (codes "000000", sound plane_code (codes "000000") refl)

pub escape_live : (e : Enclosure) → Begins (escape_rest e) []
unfolding is_hex is_digit is_escape
escape_live Angle = (codes "u0000", sound (escape_rest Angle) (codes "u0000") refl)
escape_live Double = (codes "u0000", sound (escape_rest Double) (codes "u0000") refl)
escape_live Single = (codes "u0000", sound (escape_rest Single) (codes "u0000") refl)
escape_live LongDouble = (codes "u0000", sound (escape_rest LongDouble) (codes "u0000") refl)
escape_live LongSingle = (codes "u0000", sound (escape_rest LongSingle) (codes "u0000") refl)

pub escape_full : (e : Enclosure) → is_empty (escape_rest e) ≡ false
escape_full Angle = refl
escape_full Double = refl
escape_full Single = refl
escape_full LongDouble = refl
escape_full LongSingle = refl
