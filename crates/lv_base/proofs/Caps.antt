-- Numbers that are capped at each step, and numbers that are out of range.
use Rattle.std.proofs.Common.{◌≡◌, ℕ, zero, suc, ◌+◌, ◌-◌, ◌*◌, ◌^◌, ◌<◌, ◌≤◌, min, Bool, true, false, refl, sym, ◌∙◌, ap, ⊎_elim, arith, Err, add-one, fold, List, [], ◌∷◌}
use Rattle.std.proofs.lemmas.Bool.{cases_lt, le-ltb}
use Rattle.std.proofs.Math.Nat.{mul-le-mul, mul-le-mul_right, pow-suc, pow-le-pow_right, one-le-pow}
use Rattle.std.proofs.lemmas.Nat.{le-div}
use Rattle.lv_base.specs.Decimal.{with_digit, parts_of, signed, in_range}
use Rattle.lv_base.specs.Leading.{capped}
use Rattle.lv_base.specs.declared.decimal.NumFault.TheVariants.{Range}

-- a number may be capped before a digit is added
min-with_digit : (number cap digit : ℕ) → min (10 * min number cap + digit) cap ≡ min (10 * number + digit) cap
min-with_digit number cap digit = omega arith

-- any number but 0 is at the cap once it has as many zeros as the cap
far_up : (number k a : ℕ) → k ≤ a → 10 ^ k ≤ suc number * 10 ^ a
far_up number k a le =
    let up : 10 ^ k ≤ 10 ^ a = pow-le-pow_right (omega arith) le in
    let more : 1 * 10 ^ a ≤ suc number * 10 ^ a = mul-le-mul_right (10 ^ a) (omega arith) in
    omega (arith, up, more)

-- one more zero after a capped number
pub capped_zero : (start zeros number : ℕ) → number ≡ capped (start * 10 ^ zeros) → min (number * 10) (10 ^ 30) ≡ capped (start * 10 ^ (zeros + 1))
capped_zero start zeros number e =
    let more : start * 10 ^ (zeros + 1) ≡ start * (10 ^ zeros * 10) = rw (add-one, pow-suc) refl in
    let product = start * 10 ^ zeros in
    let tens : start * 10 ^ (zeros + 1) ≡ product * 10 = omega (arith, more) in
    omega (arith, tens, e)

-- how many zeros there are beyond the cap's doesn't matter
pub min-zeros : (number k a b : ℕ) → k ≤ a → k ≤ b → min (number * 10 ^ a) (10 ^ k) ≡ min (number * 10 ^ b) (10 ^ k)
min-zeros zero k a b p q = omega arith
min-zeros (suc number) k a b p q = omega (arith, far_up number k a p, far_up number k b q)

-- the cap's zeros are enough
pub capped_zeros : (start zeros : ℕ) → capped (start * 10 ^ min zeros 30) ≡ capped (start * 10 ^ zeros)
capped_zeros start zeros =
    ⊎_elim
    (λ (few : zeros < 30). let same : min zeros 30 ≡ zeros = omega arith in ap (λ n. capped (start * 10 ^ n)) same)
    (λ (many : 30 ≤ zeros). min-zeros start 30 (min zeros 30) zeros (omega arith) many)
    (cases_lt zeros 30)

-- a number may be capped before digits are added
pub capped_fold : (text : List ℕ) (number : ℕ) → capped (fold with_digit (capped number) text) ≡ capped (fold with_digit number text)
capped_fold [] number = omega arith
capped_fold (c ∷ text) number =
    sym (capped_fold text (with_digit (capped number) c))
    ∙ ap (λ n. capped (fold with_digit n text)) (min-with_digit number (10 ^ 30) (c - 48))
    ∙ capped_fold text (with_digit number c)

-- a number at the cap stays there with zeros after it
past_cap : (number zeros : ℕ) → 10 ^ 30 ≤ number → 10 ^ 30 ≤ number * 10 ^ zeros
past_cap number zeros far =
    let one : 1 ≤ 10 ^ zeros = one-le-pow zeros 10 (omega arith) in
    let more : 10 ^ 30 * 1 ≤ number * 10 ^ zeros = mul-le-mul {n₁ = 10 ^ 30} {m₁ = 1} {n₂ = number} {m₂ = 10 ^ zeros} far one in
    omega (arith, more)

-- and before zeros are added
pub capped_power : (number zeros : ℕ) → capped (capped number * 10 ^ zeros) ≡ capped (number * 10 ^ zeros)
capped_power number zeros =
    ⊎_elim
    (λ (below : number < 10 ^ 30). let same : capped number ≡ number = omega arith in ap (λ n. capped (n * 10 ^ zeros)) same)
    (λ (far : 10 ^ 30 ≤ number). omega (arith, past_cap (capped number) zeros (omega arith), past_cap number zeros far))
    (cases_lt number (10 ^ 30))

-- a number of parts above 2^63 is out of range with either sign
far_out : (negative : Bool) (parts : ℕ) → 2 ^ 63 < parts → in_range (signed negative parts) ≡ Err Range
far_out negative zero far = absurd (omega arith)
far_out false (suc n) far = rw (le-ltb (suc n) (2 ^ 63) (omega arith)) refl
far_out true (suc n) far = rw (le-ltb n (2 ^ 63) (omega arith)) refl

-- units at the cap or above it are such a number of parts
parts_far : (units : ℕ) → 10 ^ 30 ≤ units → 2 ^ 63 < parts_of units
parts_far units far =
    let least : 2 ^ 63 + 1 ≤ parts_of units = le-div (2 ^ 63 + 1) (2 * 2 ^ 24 * units + 10 ^ 18) (2 * 10 ^ 18) (omega arith) (omega arith) in
    omega (arith, least)

-- so they have no answer but that
refused : (negative : Bool) (units : ℕ) → 10 ^ 30 ≤ units → in_range (signed negative (parts_of units)) ≡ Err Range
refused negative units far = far_out negative (parts_of units) (parts_far units far)

-- capped units give the same answer
pub in_range-capped : (negative : Bool) (units : ℕ) → in_range (signed negative (parts_of (capped units))) ≡ in_range (signed negative (parts_of units))
in_range-capped negative units =
    ⊎_elim
    (λ (below : units < 10 ^ 30). let same : capped units ≡ units = omega arith in ap (λ u. in_range (signed negative (parts_of u))) same)
    (λ (far : 10 ^ 30 ≤ units). refused negative (capped units) (omega arith) ∙ sym (refused negative units far))
    (cases_lt units (10 ^ 30))
