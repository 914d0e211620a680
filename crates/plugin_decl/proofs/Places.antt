-- The first place of a list where a test passes.
use Rattle.std.proofs.Common.{◌≡◌, ℕ, zero, suc, ◌<◌, ◌≤◌, Bool, true, false, cond, List, [], ◌∷◌, length, get_or, Option, None, Some, refl, sym, ◌∙◌, subst, ⊎_elim, arith}
use Rattle.std.specs.Prelude.{find, slice_get, position}
use Rattle.std.specs.List.{position_or_len}
use Rattle.std.proofs.lemmas.Bool.{cases_lt, le-ltb, lt-ltb}
use Rattle.std.proofs.lemmas.List.Folds.{find_at}
use Rattle.std.proofs.lemmas.List.Sums.{fails_before_first, passes_at_first}
use Rattle.plugin_decl.specs.Rules.{passes_at}
use Rattle.plugin_decl.specs.Checks.{IsFirstPlace}

-- within the list the item is read
pub passes-within : {X : Type 0} (p : X → Bool) (xs : List X) (k : ℕ) (d : X) → k < length xs → passes_at p xs k ≡ p (get_or xs k d)
passes-within p [] k d h = absurd (omega arith)
passes-within p (x ∷ xs) zero d h = refl
passes-within p (x ∷ xs) (suc k) d h = passes-within p xs k d (omega arith)

-- past its end nothing passes
pub passes-past : {X : Type 0} (p : X → Bool) (xs : List X) (k : ℕ) → length xs ≤ k → passes_at p xs k ≡ false
passes-past p [] k h = refl
passes-past p (x ∷ xs) zero h = absurd (omega arith)
passes-past p (x ∷ xs) (suc k) h = passes-past p xs k (omega arith)

-- nothing passes before the first
before-first : {X : Type 0} (p : X → Bool) (xs : List X) (k : ℕ) → k < position_or_len p xs → passes_at p xs k ≡ false
before-first p [] k h = refl
before-first p (x ∷ xs) k h = ⊎_elim
    (λ (within : k < length (x ∷ xs)). passes-within p (x ∷ xs) k x within ∙ fails_before_first p (x ∷ xs) k x h)
    (λ (past : length (x ∷ xs) ≤ k). passes-past p (x ∷ xs) k past)
    (cases_lt k (length (x ∷ xs)))

-- the first passes
at-first : {X : Type 0} (p : X → Bool) (xs : List X) → position_or_len p xs < length xs → passes_at p xs (position_or_len p xs) ≡ true
at-first p [] h = absurd (omega arith)
at-first p (x ∷ xs) h = passes-within p (x ∷ xs) (position_or_len p (x ∷ xs)) x h ∙ passes_at_first p (x ∷ xs) x h

-- where no item passes, none does at any place
never : {X : Type 0} (p : X → Bool) (xs : List X) → length xs ≤ position_or_len p xs → (k : ℕ) → passes_at p xs k ≡ false
never p xs h k = ⊎_elim
    (λ (before : k < position_or_len p xs). before-first p xs k before)
    (λ (past : position_or_len p xs ≤ k). passes-past p xs k (omega arith))
    (cases_lt k (position_or_len p xs))

by-test : {X : Type 0} (p : X → Bool) (xs : List X) → IsFirstPlace (passes_at p xs) (position p xs)
by-test p xs = ⊎_elim
    (λ (within : position_or_len p xs < length xs). subst (λ b. IsFirstPlace (passes_at p xs) (cond b (Some (position_or_len p xs)) None)) (sym (lt-ltb _ _ within)) (at-first p xs within, before-first p xs))
    (λ (past : length xs ≤ position_or_len p xs). subst (λ b. IsFirstPlace (passes_at p xs) (cond b (Some (position_or_len p xs)) None)) (sym (le-ltb _ _ past)) (never p xs past))
    (cases_lt (position_or_len p xs) (length xs))

-- what `position` finds is the first place that passes
pub position-first : {X : Type 0} (p : X → Bool) (xs : List X) (o : Option ℕ) → o ≡ position p xs → IsFirstPlace (passes_at p xs) o
position-first p xs o e = subst (IsFirstPlace (passes_at p xs)) (sym e) (by-test p xs)

-- an item that is there is within the list
within : {X : Type 0} (xs : List X) (k : ℕ) (x : X) → slice_get xs k ≡ Some x → k < length xs
within [] k x e = cc
within (y ∷ ys) zero x e = omega arith
within (y ∷ ys) (suc k) x e = let below = within ys k x e in omega arith

-- an item that is not there is past its end
past-end : {X : Type 0} (xs : List X) (k : ℕ) → slice_get xs k ≡ None → length xs ≤ k
past-end [] k e = omega arith
past-end (y ∷ ys) zero e = cc
past-end (y ∷ ys) (suc k) e = let above = past-end ys k e in omega arith

-- what `find` finds stands at the first place that passes
pub find-some : {X : Type 0} (p : X → Bool) (xs : List X) (x : X) → find p xs ≡ Some x → (place : ℕ) × (slice_get xs place ≡ Some x) × (passes_at p xs place ≡ true) × ((before : ℕ) → before < place → passes_at p xs before ≡ false)
find-some p xs x e =
    let at : slice_get xs (position_or_len p xs) ≡ Some x = sym (find_at p xs) ∙ e in
    (position_or_len p xs, at, at-first p xs (within xs _ x at), before-first p xs)

-- where it finds nothing, no place passes
pub find-none : {X : Type 0} (p : X → Bool) (xs : List X) → find p xs ≡ None → (place : ℕ) → passes_at p xs place ≡ false
find-none p xs e = never p xs (past-end xs _ (sym (find_at p xs) ∙ e))
