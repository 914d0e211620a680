-- Actions of which nothing is known, and bytes that are put.
use Rattle.std.proofs.Common.{◌≡◌, ℕ, zero, suc, ◌+◌, List, [], ◌∷◌, ◌++◌, length, take, Option, None, Result, Ok, Err, OnOk, refl, ap, arith}
use Rattle.record_counts.specs.Table.{IsTable}

-- a list of nothing
abbrev pub HoldsNothing : {X : Type 0} → List (Option X) → Type 0
HoldsNothing {X} kept = IsTable (λ action. None) kept

pub one_more_nothing : {X : Type 0} → (kept : List (Option X)) → HoldsNothing kept → HoldsNothing (kept ++ None ∷ [])
one_more_nothing [] none zero there = refl
one_more_nothing [] none (suc action) there = absurd (omega (there, arith))
one_more_nothing (x ∷ kept) none zero there = none 0 (omega arith)
one_more_nothing (x ∷ kept) none (suc action) there =
    one_more_nothing kept (λ i less. none (suc i) (omega (less, arith))) action (omega (there, arith))

-- what stands at the front of bytes
pub front_of : (first rest : List ℕ) (n : ℕ) → n ≡ length first → take n (first ++ rest) ≡ first
front_of [] rest zero is = refl
front_of [] rest (suc n) is = absurd (omega (is, arith))
front_of (x ∷ first) rest zero is = absurd (omega (is, arith))
front_of (x ∷ first) rest (suc n) is = ap (λ (l : List ℕ). x ∷ l) (front_of first rest n (omega (is, arith)))

pub on_ok : {T E : Type 0} {P Q : Type 0} → (r : Result T E) → (P → Q) → OnOk r P → OnOk r Q
on_ok (Ok x) go p = go p
on_ok (Err e) go p = tt
