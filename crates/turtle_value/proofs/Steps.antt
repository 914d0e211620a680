-- Each kind of step over a character.
use Rattle.std.proofs.Common.{◌≡◌, ℕ, zero, suc, ◌≤◌, ◌<◌, ◌+◌, ◌*◌, ◌^◌, nat_lt, None, Some, ◌∷◌, if◌then◌else◌, ap, arith, subst, sym, ◌-◌}
use Rattle.std.specs.Char.{digit_value}
use Rattle.turtle_grammar.specs.Value.{unescaped, character}
use Rattle.turtle_value.specs.Escaping.{left_of, with_digit, digit_of, IsNumber, Steps}
use Rattle.turtle_value.specs.declared.unescape.Escape.TheVariants as escape
use Rattle.turtle_value.proofs.Fuel.{behind_backslash}

pub at_backslash : (c : ℕ) → c ≡ 92 → Steps escape.None c None escape.Backslash
at_backslash c e = record { begun = tt; left = λ rest. subst (λ x. left_of escape.None (x ∷ rest) ≡ left_of escape.Backslash rest) (sym e) (behind_backslash rest) }

-- a digit is below 16
pub below_16 : (v : ℕ) → (if nat_lt v 16 then v else 0) < 16
below_16 v = grind arith

-- one digit more keeps the bound of a number
pub bounded : (left number d : ℕ) → left ≤ 7 → d < 16 → number * 16 ^ suc left < 16 ^ 8 → (16 * number + d) * 16 ^ left < 16 ^ 8
bounded zero number d q r h = omega (arith, h, r)
bounded (suc zero) number d q r h = omega (arith, h, r)
bounded (suc (suc zero)) number d q r h = omega (arith, h, r)
bounded (suc (suc (suc zero))) number d q r h = omega (arith, h, r)
bounded (suc (suc (suc (suc zero)))) number d q r h = omega (arith, h, r)
bounded (suc (suc (suc (suc (suc zero))))) number d q r h = omega (arith, h, r)
bounded (suc (suc (suc (suc (suc (suc zero)))))) number d q r h = omega (arith, h, r)
bounded (suc (suc (suc (suc (suc (suc (suc zero))))))) number d q r h = omega (arith, h, r)
bounded (suc (suc (suc (suc (suc (suc (suc (suc n)))))))) number d q r h = absurd (omega (arith, q))

-- which fits
pub fits_u32 : (left number : ℕ) → 1 ≤ left → left ≤ 8 → number * 16 ^ left < 16 ^ 8 → number < 268435456
fits_u32 zero number p q h = absurd (omega (arith, p))
fits_u32 (suc zero) number p q h = omega (arith, h)
fits_u32 (suc (suc zero)) number p q h = omega (arith, h)
fits_u32 (suc (suc (suc zero))) number p q h = omega (arith, h)
fits_u32 (suc (suc (suc (suc zero)))) number p q h = omega (arith, h)
fits_u32 (suc (suc (suc (suc (suc zero))))) number p q h = omega (arith, h)
fits_u32 (suc (suc (suc (suc (suc (suc zero)))))) number p q h = omega (arith, h)
fits_u32 (suc (suc (suc (suc (suc (suc (suc zero))))))) number p q h = omega (arith, h)
fits_u32 (suc (suc (suc (suc (suc (suc (suc (suc zero)))))))) number p q h = omega (arith, h)
fits_u32 (suc (suc (suc (suc (suc (suc (suc (suc (suc n))))))))) number p q h = absurd (omega (arith, q))

middle : (left number c m : ℕ) → 1 ≤ left → left ≤ 7 → number * 16 ^ suc left < 16 ^ 8 → m ≡ with_digit number c
    → Steps (escape.Number (suc left) number) c None (escape.Number left m)
middle left number c m p q h e =
    record {
      begun = record { some = p; few = omega (arith, q); small = subst (λ x. x * 16 ^ left < 16 ^ 8) (sym e) (bounded left number (digit_of c) q (below_16 (digit_value c)) h) };
      left = λ rest. ap (λ x. left_of (escape.Number left x) rest) (sym e);
    }

-- a digit in the middle of a number
pub at_digit : (left number c m : ℕ) → IsNumber left number → (left ≡ 1 → ⊥) → m ≡ with_digit number c
    → Steps (escape.Number left number) c None (escape.Number (left - 1) m)
at_digit left number c m n more e =
    let p = n.some in let q = n.few in let h = n.small in
    let l : left ≡ suc (left - 1) = omega (arith, p) in
    let two : 1 ≤ left - 1 = grind (arith, p, more) in
    let P : ℕ → Type 0 = λ x. Steps (escape.Number x number) c None (escape.Number (left - 1) m) in
    subst P (sym l) (middle (left - 1) number c m two (omega (arith, q)) (subst (λ x. number * 16 ^ x < 16 ^ 8) l h) e)

-- the last digit of a number
pub at_last_digit : (left number c m : ℕ) → left ≡ 1 → m ≡ with_digit number c → Steps (escape.Number left number) c (Some (character m)) escape.None
at_last_digit left number c m last e =
    let P : ℕ → Type 0 = λ x. Steps (escape.Number x number) c (Some (character m)) escape.None in
    subst P (sym last) (record { begun = tt; left = λ rest. ap (λ x. character x ∷ unescaped rest) (sym e) })
