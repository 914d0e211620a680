-- The blank bounds of the fronts of the rows.
use Rattle.std.proofs.Common.{◌≡◌, ℕ, zero, suc, ◌-◌, max, unwrap_or, List, [], ◌∷◌, ◌++◌, length, take, fold, slice_get, get_or, refl, ap, ◌∙◌, arith}
use Rattle.std.proofs.lemmas.Option.{unwrap_or-slice_get}
use Rattle.triple_store.specs.Index.{blanks_so_far}
use Rattle.triple_store.specs.Triples.{blanks_of, blanks_of_triple}
use Rattle.triple_store.specs.declared.term.Triple.{Triple}

-- the greatest so far, from a number on
abbrev pub most_from : ℕ → List Triple → ℕ
most_from most rows = fold (λ m t. max m (blanks_of_triple t)) most rows

-- a row at the end adds one bound
pub blanks_so_far-push : (most : ℕ) (rows : List Triple) (t : Triple)
    → blanks_so_far most (rows ++ t ∷ []) ≡ blanks_so_far most rows ++ max (most_from most rows) (blanks_of_triple t) ∷ []
blanks_so_far-push most [] t = refl
blanks_so_far-push most (u ∷ rows) t = ap (λ l. max most (blanks_of_triple u) ∷ l) (blanks_so_far-push (max most (blanks_of_triple u)) rows t)

-- fewer rows have fewer bounds
pub blanks_so_far-take : (most : ℕ) (n : ℕ) (rows : List Triple) → blanks_so_far most (take n rows) ≡ take n (blanks_so_far most rows)
blanks_so_far-take most zero rows = refl
blanks_so_far-take most (suc n) [] = refl
blanks_so_far-take most (suc n) (u ∷ rows) = ap (λ l. max most (blanks_of_triple u) ∷ l) (blanks_so_far-take (max most (blanks_of_triple u)) n rows)

-- there are as many bounds as rows
pub length-blanks_so_far : (most : ℕ) (rows : List Triple) → length (blanks_so_far most rows) ≡ length rows
length-blanks_so_far most [] = refl
length-blanks_so_far most (u ∷ rows) = ap suc (length-blanks_so_far (max most (blanks_of_triple u)) rows)

-- the last bound is that of all rows
last_bound : (most d : ℕ) (t : Triple) (rows : List Triple) → get_or (blanks_so_far most (t ∷ rows)) (length rows) d ≡ most_from most (t ∷ rows)
last_bound most d t [] = refl
last_bound most d t (u ∷ rows) = last_bound (max most (blanks_of_triple t)) d u rows

-- the last of the bounds that are kept, 0 without one
pub blanks_of-last : (rows : List Triple) (bounds : List ℕ) → bounds ≡ blanks_so_far 0 rows → unwrap_or (slice_get bounds (length bounds - 1)) 0 ≡ blanks_of rows
blanks_of-last [] bounds e = rw e refl
blanks_of-last (t ∷ rows) bounds e =
    let last : length bounds - 1 ≡ length rows = omega (arith, ap length e, length-blanks_so_far 0 (t ∷ rows)) in
    rw (last, e) (unwrap_or-slice_get (blanks_so_far 0 (t ∷ rows)) (length rows) 0 ∙ last_bound 0 0 t rows)
