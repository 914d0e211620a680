-- The rows that have a subject, by their places.
use Rattle.std.proofs.Common.{◌≡◌, ℕ, zero, suc, ◌<◌, ◌≤◌, true, false, cond, List, [], ◌∷◌, ◌++◌, length, drop, filter, slice_get, Some, refl, ap, sym, subst, ◌∙◌, true≢false, arith}
use Rattle.std.proofs.Math.Logic.{⊎_elim}
use Rattle.std.proofs.lemmas.Bool.{cases_lt}
use Rattle.std.proofs.lemmas.Option.{slice_get_within}
use Rattle.triple_store.specs.Chain.{about_first}
use Rattle.triple_store.specs.Index.{is_about, is_about_at}
use Rattle.triple_store.specs.declared.term.Term.{Term}
use Rattle.triple_store.specs.declared.term.Triple.{Triple}
use Rattle.triple_store.proofs.SameTerm.{same_term-true, same_term-itself}

-- there is no row beyond the end
pub about-past : (q : Term) (rows : List Triple) (k : ℕ) → length rows ≤ k → is_about_at q rows k ≡ false
about-past q [] k h = refl
about-past q (t ∷ rows) zero h = absurd (omega arith)
about-past q (t ∷ rows) (suc k) h = about-past q rows k (omega arith)

-- a row with a subject is a row
pub about-within : (q : Term) (rows : List Triple) (k : ℕ) → is_about_at q rows k ≡ true → k < length rows
about-within q rows k p = ⊎_elim (λ (h : k < length rows). h) (λ (h : length rows ≤ k). absurd (true≢false (sym p ∙ about-past q rows k h))) (cases_lt k (length rows))

-- a row at the end leaves those before it
pub about-front : (q : Term) (rows : List Triple) (t : Triple) (k : ℕ) → k < length rows → is_about_at q (rows ++ t ∷ []) k ≡ is_about_at q rows k
about-front q [] t k h = absurd (omega arith)
about-front q (u ∷ rows) t zero h = refl
about-front q (u ∷ rows) t (suc k) h = about-front q rows t k (omega arith)

pub about-end : (q : Term) (rows : List Triple) (t : Triple) → is_about_at q (rows ++ t ∷ []) (length rows) ≡ is_about q t
about-end q [] t = refl
about-end q (u ∷ rows) t = about-end q rows t

-- a row at the end with another subject adds no place
pub about-other : (q : Term) (rows : List Triple) (t : Triple) → is_about q t ≡ false → is_about_at q rows ≡ is_about_at q (rows ++ t ∷ [])
about-other q rows t other = λ i k. sym (each rows k) i
  where
    each : (rows : List Triple) (k : ℕ) → is_about_at q (rows ++ t ∷ []) k ≡ is_about_at q rows k
    each [] zero = other
    each [] (suc k) = refl
    each (u ∷ rows) zero = refl
    each (u ∷ rows) (suc k) = each rows k

-- a row has one subject
pub about-one : (q s : Term) (rows : List Triple) (k : ℕ) → is_about_at q rows k ≡ true → is_about_at s rows k ≡ true → q ≡ s
about-one q s [] k h j = absurd (true≢false (sym h))
about-one q s (t ∷ rows) zero h j = same_term-true q t.s h ∙ sym (same_term-true s t.s j)
about-one q s (t ∷ rows) (suc k) h j = about-one q s rows k h j

-- from a row with a subject on: it, and those after it with this subject
pub about_first-drop : (q : Term) (rows : List Triple) (k : ℕ) → is_about_at q rows k ≡ true → about_first (drop k rows) ≡ filter (is_about q) (drop k rows)
about_first-drop q [] k h = absurd (true≢false (sym h))
about_first-drop q (t ∷ rows) (suc k) h = about_first-drop q rows k h
about_first-drop q (t ∷ rows) zero h =
    let same : t.s ≡ q = sym (same_term-true q t.s h) in
    ap (λ s. t ∷ filter (is_about s) rows) same ∙ sym (ap (λ b. cond b (t ∷ filter (is_about q) rows) (filter (is_about q) rows)) h)

-- places without the subject are passed over
pub filter-skip : (q : Term) (rows : List Triple) (a b : ℕ) → a ≤ b → ((k : ℕ) → a ≤ k → k < b → is_about_at q rows k ≡ false)
    → filter (is_about q) (drop a rows) ≡ filter (is_about q) (drop b rows)
filter-skip q [] zero zero h none = refl
filter-skip q [] zero (suc b) h none = refl
filter-skip q [] (suc a) zero h none = refl
filter-skip q [] (suc a) (suc b) h none = refl
filter-skip q (t ∷ rows) zero zero h none = refl
filter-skip q (t ∷ rows) zero (suc b) h none =
    ap (λ c. cond c (t ∷ filter (is_about q) rows) (filter (is_about q) rows)) (none zero (omega arith) (omega arith))
    ∙ filter-skip q rows zero b (omega arith) (λ k above below. none (suc k) (omega arith) (omega arith))
filter-skip q (t ∷ rows) (suc a) zero h none = absurd (omega arith)
filter-skip q (t ∷ rows) (suc a) (suc b) h none = filter-skip q rows a b (omega arith) (λ k above below. none (suc k) (omega arith) (omega arith))

-- where no place has the subject, no row has
pub filter-none : (q : Term) (rows : List Triple) (a : ℕ) → ((k : ℕ) → a ≤ k → is_about_at q rows k ≡ false) → filter (is_about q) (drop a rows) ≡ []
filter-none q [] zero none = refl
filter-none q [] (suc a) none = refl
filter-none q (t ∷ rows) zero none =
    ap (λ c. cond c (t ∷ filter (is_about q) rows) (filter (is_about q) rows)) (none zero (omega arith)) ∙ filter-none q rows zero (λ k above. none (suc k) (omega arith))
filter-none q (t ∷ rows) (suc a) none = filter-none q rows a (λ k above. none (suc k) (omega arith))

-- a row and what follows it
pub drop-row : (rows : List Triple) (k : ℕ) (t : Triple) → slice_get rows k ≡ Some t → drop k rows ≡ t ∷ drop (suc k) rows
drop-row [] k t h = absurd (omega (arith, slice_get_within [] k t h))
drop-row (u ∷ rows) zero t h = let same : u ≡ t = cc in ap (λ v. v ∷ rows) same
drop-row (u ∷ rows) (suc k) t h = drop-row rows k t h

-- a row has its subject
pub about-own : (rows : List Triple) (k : ℕ) (t : Triple) → slice_get rows k ≡ Some t → is_about_at t.s rows k ≡ true
about-own [] k t h = absurd (omega (arith, slice_get_within [] k t h))
about-own (u ∷ rows) zero t h = let same : u ≡ t = cc in subst (λ v. is_about t.s v ≡ true) (sym same) (same_term-itself t.s)
about-own (u ∷ rows) (suc k) t h = about-own rows k t h
