-- What a list has after a write.
use Rattle.std.proofs.Common.{◌≡◌, ℕ, zero, suc, List, [], ◌∷◌, slice_set, Some, refl, sym, ap}
use Rattle.std.specs.List.{slice_get}
use Rattle.std.proofs.lemmas.Option.{same_Some, none-some}

pub get_set_same : {X : Type 0} (xs : List X) (i : ℕ) (x y : X) → slice_get (slice_set xs i x) i ≡ Some y → y ≡ x
get_set_same [] i x y e = absurd (none-some y e)
get_set_same (z ∷ zs) zero x y e = sym (same_Some x y e)
get_set_same (z ∷ zs) (suc i) x y e = get_set_same zs i x y e

pub get_set_other : {X : Type 0} (xs : List X) (i j : ℕ) (x : X) → (i ≡ j → ⊥) → slice_get (slice_set xs i x) j ≡ slice_get xs j
get_set_other [] i j x ne = refl
get_set_other (z ∷ zs) zero zero x ne = absurd (ne refl)
get_set_other (z ∷ zs) zero (suc j) x ne = refl
get_set_other (z ∷ zs) (suc i) zero x ne = refl
get_set_other (z ∷ zs) (suc i) (suc j) x ne = get_set_other zs i j x (λ e. ne (ap suc e))
