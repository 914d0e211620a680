-- Tables: what a change of one place leaves.
use Rattle.std.proofs.Common.{◌≡◌, ℕ, zero, suc, ◌<◌, List, [], ◌∷◌, length, set, Some, slice_get, replicate, refl, ap, subst, sym, ◌∙◌, ⊎_elim, arith}
use Rattle.std.proofs.lemmas.Bool.{cases_eq}
use Rattle.std.proofs.lemmas.List.{length-set, length-replicate}
use Rattle.std.proofs.lemmas.Option.{slice_get_within}
use Rattle.record_counts.specs.Table.{IsTable}

get_set_same : {A : Type 0} (xs : List A) (i : ℕ) (v : A) → i < length xs → slice_get (set xs i v) i ≡ Some v
get_set_same [] i v less = absurd (omega (arith, less))
get_set_same (x ∷ xs) zero v less = refl
get_set_same (x ∷ xs) (suc i) v less = get_set_same xs i v (omega (arith, less))

get_set_other : {A : Type 0} (xs : List A) (i j : ℕ) (v : A) → (j ≡ i → ⊥) → slice_get (set xs i v) j ≡ slice_get xs j
get_set_other [] i j v other = refl
get_set_other (x ∷ xs) zero zero v other = absurd (other refl)
get_set_other (x ∷ xs) zero (suc j) v other = refl
get_set_other (x ∷ xs) (suc i) zero v other = refl
get_set_other (x ∷ xs) (suc i) (suc j) v other = get_set_other xs i j v (λ e. other (ap suc e))

get_replicate : {A : Type 0} (n i : ℕ) (v : A) → i < n → slice_get (replicate n v) i ≡ Some v
get_replicate zero i v less = absurd (omega (arith, less))
get_replicate (suc n) zero v less = refl
get_replicate (suc n) (suc i) v less = get_replicate n i v (omega (arith, less))

-- a table at one place more
pub table_set : {A : Type 0} (f g : ℕ → A) (xs : List A) (at : ℕ) (v : A) → IsTable f xs → (at < length xs → v ≡ g at)
    → ((i : ℕ) → (i ≡ at → ⊥) → f i ≡ g i) → IsTable g (set xs at v)
table_set f g xs at v table here else i less =
    let within : i < length xs = omega (arith, less, length-set xs at v) in
    ⊎_elim
    (λ (same : i ≡ at).
    let at_within : at < length xs = omega arith in
    subst (λ (k : ℕ). slice_get (set xs at v) k ≡ Some (g k)) (sym same) (get_set_same xs at v at_within ∙ ap Some (here at_within)))
    (λ (other : i ≡ at → ⊥). get_set_other xs at i v other ∙ table i within ∙ ap Some (else i other))
    (cases_eq i at)

pub table_same : {A : Type 0} (f g : ℕ → A) (xs : List A) → IsTable f xs → ((i : ℕ) → f i ≡ g i) → IsTable g xs
table_same f g xs table same i less = table i less ∙ ap Some (same i)

pub table_replicate : {A : Type 0} (f : ℕ → A) (n : ℕ) (v : A) → ((i : ℕ) → v ≡ f i) → IsTable f (replicate n v)
table_replicate f n v same i less = get_replicate n i v (omega (arith, less, length-replicate n v)) ∙ ap Some (same i)

-- what holds of each item, with one place more
pub each_set : {A : Type 0} (R Q : ℕ → A → Type 0) (xs : List A) (at : ℕ) (v : A) → ((i : ℕ) (x : A) → slice_get xs i ≡ Some x → R i x)
    → (at < length xs → Q at v) → ((i : ℕ) (x : A) → (i ≡ at → ⊥) → R i x → Q i x) → (i : ℕ) (x : A) → slice_get (set xs at v) i ≡ Some x → Q i x
each_set R Q xs at v each here else i x is =
    ⊎_elim
    (λ (same : i ≡ at).
    let within = slice_get_within (set xs at v) i x is in
    let at_within : at < length xs = omega (arith, within, length-set xs at v, same) in
    let found : Some v ≡ Some x = sym (get_set_same xs at v at_within) ∙ subst (λ (k : ℕ). slice_get (set xs at v) k ≡ Some x) same is in
    let item : v ≡ x = cc in subst (λ (k : ℕ). Q k x) (sym same) (subst (Q at) item (here at_within)))
    (λ (other : i ≡ at → ⊥). else i x other (each i x (sym (get_set_other xs at i v other) ∙ is)))
    (cases_eq i at)
