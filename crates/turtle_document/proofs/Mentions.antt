-- Which blank numbers a list of terms has, and that there are no more of them than terms.
use Rattle.std.proofs.Common.{◌≡◌, ◌⊎◌, inl, inr, ℕ, zero, suc, ◌+◌, ◌*◌, ◌<◌, ◌≤◌, max, Bool, true, false, not, cond, ◌&&◌, ◌||◌, List, [], ◌∷◌, ◌++◌, Contains, length, fold, slice_index_or, refl, ap, sym, subst, ◌∙◌, true≢false, arith}
use Rattle.std.specs.Prelude.{Some, nat_eq}
use Rattle.std.specs.List.{filter, list_any}
use Rattle.std.proofs.lemmas.Bool.{eq-eqb, eqb-true, false_from_ne_true}
use Rattle.std.proofs.lemmas.List.Sums.{fold-append}
use Rattle.triple_store.proofs.SameTerm.{same_term-true}
use Rattle.triple_store.specs.Triples.{agrees, same_term, blanks_of, blanks_of_term, blanks_of_triple}
use Rattle.triple_store.specs.declared.term.Term.{Term}
use Rattle.triple_store.specs.declared.term.Term.TheVariants.{Iri, Blank, Literal}
use Rattle.triple_store.specs.declared.term.Triple.{Triple}

abbrev pub Has : List Term → ℕ → Type 0
Has [] n = ⊥
Has (t ∷ ts) n = (t ≡ Blank n) ⊎ Has ts n

pub has_left : (ts us : List Term) (n : ℕ) → Has ts n → Has (ts ++ us) n
has_left [] us n h = absurd h
has_left (t ∷ ts) us n (inl e) = inl e
has_left (t ∷ ts) us n (inr h) = inr (has_left ts us n h)

pub has_right : (ts us : List Term) (n : ℕ) → Has us n → Has (ts ++ us) n
has_right [] us n h = h
has_right (t ∷ ts) us n h = inr (has_right ts us n h)

on_left : (t : Term) (ts us : List Term) (n : ℕ) → Has ts n ⊎ Has us n → Has (t ∷ ts) n ⊎ Has us n
on_left t ts us n (inl h) = inl (inr h)
on_left t ts us n (inr h) = inr h

pub has_either : (ts us : List Term) (n : ℕ) → Has (ts ++ us) n → Has ts n ⊎ Has us n
has_either [] us n h = inr h
has_either (t ∷ ts) us n (inl e) = inl (inl e)
has_either (t ∷ ts) us n (inr h) = on_left t ts us n (has_either ts us n h)

-- the subjects and objects of rows
abbrev pub ends : List Triple → List Term
ends [] = []
ends (t ∷ ts) = t.s ∷ t.o ∷ ends ts

pub ends_append : (a b : List Triple) → ends (a ++ b) ≡ ends a ++ ends b
ends_append [] b = refl
ends_append (t ∷ ts) b = ap (λ l. t.s ∷ t.o ∷ l) (ends_append ts b)

pub length_ends : (ts : List Triple) → length (ends ts) ≡ 2 * length ts
length_ends [] = omega arith
length_ends (t ∷ ts) = let h = length_ends ts in omega (arith, h)

-- without the terms of one number
abbrev differs : ℕ → Term → Bool
differs n (Iri iri) = true
differs n (Blank m) = not (nat_eq m n)
differs n (Literal text datatype lang) = true

abbrev without : ℕ → List Term → List Term
without n ts = filter (differs n) ts

no_longer : (n : ℕ) (ts : List Term) → length (without n ts) ≤ length ts
no_longer n [] = omega arith
no_longer n (t ∷ ts) = by (differs n t) (no_longer n ts)
  where
    by : (b : Bool) → length (without n ts) ≤ length ts → length (cond b (t ∷ without n ts) (without n ts)) ≤ length (t ∷ ts)
    by true h = omega arith
    by false h = omega arith

shorter : (n : ℕ) (ts : List Term) → Has ts n → length (without n ts) < length ts
shorter n [] h = absurd h
shorter n (t ∷ ts) (inl e) =
    let P : Bool → Type 0 = λ b. length (cond b (t ∷ without n ts) (without n ts)) < length (t ∷ ts) in
    let gone : differs n t ≡ false = ap (differs n) e ∙ ap not (eq-eqb n n refl) in
    let few = no_longer n ts in
    subst P (sym gone) (omega (arith, few))
shorter n (t ∷ ts) (inr h) = by (differs n t) (shorter n ts h)
  where
    by : (b : Bool) → length (without n ts) < length ts → length (cond b (t ∷ without n ts) (without n ts)) < length (t ∷ ts)
    by true h = omega arith
    by false h = omega arith

others_stay : (n m : ℕ) (ts : List Term) → (m ≡ n → ⊥) → Has ts m → Has (without n ts) m
others_stay n m [] other h = absurd h
others_stay n m (t ∷ ts) other (inl e) =
    let P : Bool → Type 0 = λ b. Has (cond b (t ∷ without n ts) (without n ts)) m in
    let there : differs n t ≡ true = ap (differs n) e ∙ ap not (false_from_ne_true (nat_eq m n) (λ same. other (eqb-true m n same))) in
    subst P (sym there) (inl e)
others_stay n m (t ∷ ts) other (inr h) = by (differs n t) (others_stay n m ts other h)
  where
    by : (b : Bool) → Has (without n ts) m → Has (cond b (t ∷ without n ts) (without n ts)) m
    by true h = inr h
    by false h = h

-- So many numbers in a row need as many terms.
pub need_terms : (k low : ℕ) (ts : List Term) → ((n : ℕ) → low ≤ n → n < low + k → Has ts n) → k ≤ length ts
need_terms zero low ts h = omega arith
need_terms (suc k) low ts h =
    let fewer = shorter (low + k) ts (h (low + k) (omega arith) (omega arith)) in
    let rest = need_terms k low (without (low + k) ts) (λ n above below. others_stay (low + k) n ts (λ e. omega (arith, e)) (h n above (omega arith))) in
    omega (arith, fewer, rest)

abbrev most_from : ℕ → List Triple → ℕ
most_from most rows = fold (λ m t. max m (blanks_of_triple t)) most rows

no_less : (most : ℕ) (rows : List Triple) → most ≤ most_from most rows
no_less most [] = omega arith
no_less most (t ∷ rows) = let h = no_less (max most (blanks_of_triple t)) rows in omega (arith, h)

below_from : (most : ℕ) (rows : List Triple) (n : ℕ) → Has (ends rows) n → n < most_from most rows
below_from most [] n h = absurd h
below_from most (t ∷ rows) n (inl e) =
    let one : blanks_of_term t.s ≡ n + 1 = ap blanks_of_term e in
    let h = no_less (max most (blanks_of_triple t)) rows in omega (arith, one, h)
below_from most (t ∷ rows) n (inr (inl e)) =
    let one : blanks_of_term t.o ≡ n + 1 = ap blanks_of_term e in
    let h = no_less (max most (blanks_of_triple t)) rows in omega (arith, one, h)
below_from most (t ∷ rows) n (inr (inr h)) = below_from (max most (blanks_of_triple t)) rows n h

-- The numbers of rows lie below their bound.
pub below_blanks : (rows : List Triple) (n : ℕ) → Has (ends rows) n → n < blanks_of rows
below_blanks rows n h = below_from 0 rows n h

pub blanks_more : (rows : List Triple) (t : Triple) (bound : ℕ) → blanks_of rows ≤ bound → blanks_of_triple t ≤ bound → blanks_of (rows ++ t ∷ []) ≤ bound
blanks_more rows t bound h k = let e : blanks_of (rows ++ t ∷ []) ≡ max (blanks_of rows) (blanks_of_triple t) = fold-append (λ m u. max m (blanks_of_triple u)) 0 rows (t ∷ []) in
    omega (arith, e, h, k)

-- A row that is there has its subject and its object among the ends.
pub row_ends : (s p o : Term) (rows : List Triple) (n : ℕ) → list_any (agrees (Some s) (Some p) (Some o)) rows ≡ true → (s ≡ Blank n) ⊎ (o ≡ Blank n) → Has (ends rows) n
row_ends s p o [] n h e = absurd (true≢false (sym h))
row_ends s p o (t ∷ rows) n h e = by (same_term s t.s) (same_term p t.p) (same_term o t.o) refl refl h e (λ k. row_ends s p o rows n k e)
  where
    by : (a b c : Bool) → same_term s t.s ≡ a → same_term o t.o ≡ c → ((a && (b && c)) || list_any (agrees (Some s) (Some p) (Some o)) rows) ≡ true
        → (s ≡ Blank n) ⊎ (o ≡ Blank n) → (list_any (agrees (Some s) (Some p) (Some o)) rows ≡ true → Has (ends rows) n) → Has (ends (t ∷ rows)) n
    by true true true f g k (inl x) more = inl (sym (same_term-true s t.s f) ∙ x)
    by true true true f g k (inr x) more = inr (inl (sym (same_term-true o t.o g) ∙ x))
    by true true false f g k x more = inr (inr (more k))
    by true false c f g k x more = inr (inr (more k))
    by false b c f g k x more = inr (inr (more k))

-- A number of the ends stands in a row.
pub stands : (rows : List Triple) (n : ℕ) → Has (ends rows) n → (t : Triple) × Contains rows t × ((t.s ≡ Blank n) ⊎ (t.o ≡ Blank n))
stands [] n h = absurd h
stands (t ∷ rows) n (inl e) = (t, (0, omega arith, refl), inl e)
stands (t ∷ rows) n (inr (inl e)) = (t, (0, omega arith, refl), inr e)
stands (t ∷ rows) n (inr (inr h)) = let x = stands rows n h in (x.0, (suc x.1.0, omega (arith, x.1.1), x.1.2), x.2)

-- A row with a number has it among the ends.
pub has_row : (rows : List Triple) (t : Triple) (n : ℕ) (k : ℕ) → k < length rows → slice_index_or rows k t ≡ t → (t.s ≡ Blank n) ⊎ (t.o ≡ Blank n) → Has (ends rows) n
has_row [] t n k small e x = absurd (omega arith)
has_row (u ∷ rows) t n zero small e (inl x) = inl (ap (λ (v : Triple). v.s) e ∙ x)
has_row (u ∷ rows) t n zero small e (inr x) = inr (inl (ap (λ (v : Triple). v.o) e ∙ x))
has_row (u ∷ rows) t n (suc k) small e x = inr (inr (has_row rows t n k (omega arith) e x))
