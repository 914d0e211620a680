-- Lists of which only some are kept.
use Rattle.std.proofs.Common.{◌≡◌, Bool, true, false, cond, List, [], ◌∷◌, map, length, refl, sym, ap, subst, ◌∙◌, true≢false, arith}
use Rattle.std.specs.List.{All, filter}
use Rattle.std.proofs.lemmas.List.{length-map}
use Rattle.std.proofs.lemmas.List.Elements.{All-nil, All-cons, All-head, All-tail}

-- what holds of all that are kept holds of each that passes
pub of_kept : {X : Type 0} (Q : X → Type 0) (p : X → Bool) (xs : List X) → All Q (filter p xs) → All (λ x. p x ≡ true → Q x) xs
of_kept Q p [] h = All-nil (λ x. p x ≡ true → Q x)
of_kept {X} Q p (x ∷ xs) h =
    All-cons (λ y. p y ≡ true → Q y) x xs
    (λ e. All-head Q x (filter p xs) (subst (λ b. All Q (cond b (x ∷ filter p xs) (filter p xs))) e h))
    (of_kept Q p xs (rest (p x) h))
  where
    rest : (b : Bool) → All Q (cond b (x ∷ filter p xs) (filter p xs)) → All Q (filter p xs)
    rest true k = All-tail Q x (filter p xs) k
    rest false k = k

-- where none is kept, none passes
pub none_kept : {X Y : Type 0} (f : X → Y) (p : X → Bool) (xs : List X) → map f (filter p xs) ≡ [] → All (λ x. p x ≡ true → ⊥) xs
none_kept f p xs e =
    let empty : length (filter p xs) ≡ 0 = sym (length-map (filter p xs) f) ∙ ap length e in
    of_kept (λ x. ⊥) p xs (λ k d lt. absurd (omega (arith, empty)))

-- to keep some of those that are kept is to keep them at once
pub kept_within : {X : Type 0} (p q : X → Bool) (xs : List X) → All (λ x. p x ≡ true → q x ≡ true) xs → filter p (filter q xs) ≡ filter p xs
kept_within p q [] h = refl
kept_within {X} p q (x ∷ xs) h =
    by (q x) (p x) refl (All-head (λ y. p y ≡ true → q y ≡ true) x xs h) (kept_within p q xs (All-tail (λ y. p y ≡ true → q y ≡ true) x xs h))
  where
    by : (c b : Bool) → p x ≡ b → (b ≡ true → c ≡ true) → filter p (filter q xs) ≡ filter p xs → filter p (cond c (x ∷ filter q xs) (filter q xs)) ≡ cond b (x ∷ filter p xs) (filter p xs)
    by true b e within same = ap (λ y. cond y (x ∷ filter p (filter q xs)) (filter p (filter q xs))) e ∙ ap (λ l. cond b (x ∷ l) l) same
    by false true e within same = absurd (true≢false (sym (within refl)))
    by false false e within same = same
