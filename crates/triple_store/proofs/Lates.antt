-- Which rows are late, after one more row and after a cut, and what the late ones tell of all.
use Rattle.std.proofs.Common.{◌≡◌, ◌⊎◌, inl, inr, ℕ, zero, suc, ◌+◌, ◌-◌, ◌<◌, ◌≤◌, Bool, true, false, cond, nat_le, List, [], ◌∷◌, ◌++◌, length, take, drop, filter, Some, unwrap_or, slice_get, Contains, refl, ap, sym, subst, ◌∙◌, true≢false, arith, length-append}
use Rattle.std.proofs.Math.Logic.{⊎_elim}
use Rattle.std.proofs.Math.Seq.{take-append_seam, take-length}
use Rattle.std.proofs.lemmas.Bool.{cases_lt}
use Rattle.std.proofs.lemmas.Bool.Decides.{nat_tests}
use Rattle.std.proofs.lemmas.List.{append_assoc, append-nil, take-append-drop, take-append-le, length-take-le}
use Rattle.std.proofs.lemmas.List.Elements.{Contains-append_right, Contains-append_cases, filter-append}
use Rattle.triple_store.specs.Index.{is_about}
use Rattle.triple_store.specs.Late.{count_about, is_late, late_behind, late_of, AreLate}
use Rattle.triple_store.specs.declared.late.Late.{Late}
use Rattle.triple_store.specs.declared.late.TheConstants.{COMPARED}
use Rattle.triple_store.specs.declared.term.Term.{Term}
use Rattle.triple_store.specs.declared.term.Triple.{Triple}
use Rattle.triple_store.proofs.SameTerm.{same_term-true, same_term-itself}

-- ---- one row more

-- rows after rows
pub late-append : (before xs ys : List Triple) → late_behind before (xs ++ ys) ≡ late_behind before xs ++ late_behind (before ++ xs) ys
late-append before [] ys = ap (λ b. late_behind b ys) (sym (append-nil before))
late-append before (t ∷ xs) ys =
    let rest : late_behind (before ++ t ∷ []) (xs ++ ys) ≡ late_behind (before ++ t ∷ []) xs ++ late_behind (before ++ t ∷ xs) ys =
    late-append (before ++ t ∷ []) xs ys ∙ ap (λ b. late_behind (before ++ t ∷ []) xs ++ late_behind b ys) (append_assoc before (t ∷ []) xs) in
    by (is_late before t) rest
  where
    by : (b : Bool) → late_behind (before ++ t ∷ []) (xs ++ ys) ≡ late_behind (before ++ t ∷ []) xs ++ late_behind (before ++ t ∷ xs) ys
        → cond b (t ∷ late_behind (before ++ t ∷ []) (xs ++ ys)) (late_behind (before ++ t ∷ []) (xs ++ ys))
        ≡ cond b (t ∷ late_behind (before ++ t ∷ []) xs) (late_behind (before ++ t ∷ []) xs) ++ late_behind (before ++ t ∷ xs) ys
    by true rest = ap (λ l. t ∷ l) rest
    by false rest = rest

-- a row at the end
late-push : (rows : List Triple) (t : Triple) → late_of (rows ++ t ∷ []) ≡ cond (is_late rows t) (late_of rows ++ t ∷ []) (late_of rows)
late-push rows t = late-append [] rows (t ∷ []) ∙ by (is_late rows t)
  where
    by : (b : Bool) → late_of rows ++ cond b (t ∷ []) [] ≡ cond b (late_of rows ++ t ∷ []) (late_of rows)
    by true = refl
    by false = append-nil (late_of rows)

-- the late ones of the first rows
late-take : (n : ℕ) (rows : List Triple) → late_of (take n rows) ≡ take (length (late_of (take n rows))) (late_of rows)
late-take n rows =
    sym (take-append_seam (late_of (take n rows)) (late_behind (take n rows) (drop n rows)))
    ∙ ap (take (length (late_of (take n rows)))) (sym (late-append [] (take n rows) (drop n rows)) ∙ ap late_of (take-append-drop n rows))

pub fewer-late : (before rows : List Triple) → length (late_behind before rows) ≤ length rows
fewer-late before [] = omega arith
fewer-late before (t ∷ rows) = by (is_late before t) (fewer-late (before ++ t ∷ []) rows)
  where
    by : (b : Bool) → length (late_behind (before ++ t ∷ []) rows) ≤ length rows
        → length (cond b (t ∷ late_behind (before ++ t ∷ []) rows) (late_behind (before ++ t ∷ []) rows)) ≤ suc (length rows)
    by true h = omega (arith, h)
    by false h = omega (arith, h)

-- ---- a look among the late rows

count-push : (s : Term) (rows : List Triple) (t : Triple) → count_about s (rows ++ t ∷ []) ≡ count_about s rows + length (filter (is_about s) (t ∷ []))
count-push s rows t = ap length (filter-append (is_about s) rows (t ∷ [])) ∙ length-append (filter (is_about s) rows) (filter (is_about s) (t ∷ []))

count-own : (s : Term) (rows : List Triple) (t : Triple) → is_about s t ≡ true → count_about s (rows ++ t ∷ []) ≡ count_about s rows + 1
count-own s rows t own = count-push s rows t ∙ ap (λ b. count_about s rows + length (cond b (t ∷ []) [])) own

count-other : (s : Term) (rows : List Triple) (t : Triple) → is_about s t ≡ false → count_about s (rows ++ t ∷ []) ≡ count_about s rows
count-other s rows t other =
    let none : count_about s rows + 0 ≡ count_about s rows = omega arith in
    count-push s rows t ∙ ap (λ b. count_about s rows + length (cond b (t ∷ []) [])) other ∙ none

drop_more : (n : ℕ) (t : Triple) (rows : List Triple) → 0 < n → drop n (t ∷ rows) ≡ drop (n - 1) rows
drop_more zero t rows h = absurd (omega arith)
drop_more (suc n) t rows h = let e : suc n - 1 ≡ n = omega arith in ap (λ k. drop k rows) (sym e)

none_left : (n : ℕ) → drop {A = Triple} n [] ≡ []
none_left zero = refl
none_left (suc n) = refl

-- the late rows of a subject are those after its first ones
pub late-about : (s : Term) (before rows : List Triple) → filter (is_about s) (late_behind before rows) ≡ drop (COMPARED - count_about s before) (filter (is_about s) rows)
late-about s before [] = sym (none_left (COMPARED - count_about s before))
late-about s before (t ∷ rows) = by (is_about s t) refl (late-about s (before ++ t ∷ []) rows)
  where
    passed : (late : Bool) → is_about s t ≡ false
        → filter (is_about s) (cond late (t ∷ late_behind (before ++ t ∷ []) rows) (late_behind (before ++ t ∷ []) rows)) ≡ filter (is_about s) (late_behind (before ++ t ∷ []) rows)
    passed true other = ap (λ b. cond b (t ∷ filter (is_about s) (late_behind (before ++ t ∷ []) rows)) (filter (is_about s) (late_behind (before ++ t ∷ []) rows))) other
    passed false other = refl

    own : (late : Bool) → nat_le COMPARED (count_about s before) ≡ late → is_about s t ≡ true
        → filter (is_about s) (late_behind (before ++ t ∷ []) rows) ≡ drop (COMPARED - count_about s (before ++ t ∷ [])) (filter (is_about s) rows)
        → filter (is_about s) (cond late (t ∷ late_behind (before ++ t ∷ []) rows) (late_behind (before ++ t ∷ []) rows)) ≡ drop (COMPARED - count_about s before) (t ∷ filter (is_about s) rows)
    own true e is rest =
        let some : COMPARED ≤ count_about s before = grind (arith, nat_tests, e) in
        let count = count-own s before t is in
        let here : COMPARED - count_about s before ≡ 0 = omega (arith, some) in
        let then : COMPARED - count_about s (before ++ t ∷ []) ≡ 0 = omega (arith, some, count) in
        ap (λ b. cond b (t ∷ filter (is_about s) (late_behind (before ++ t ∷ []) rows)) (filter (is_about s) (late_behind (before ++ t ∷ []) rows))) is
        ∙ ap (λ l. t ∷ l) (rest ∙ ap (λ n. drop n (filter (is_about s) rows)) then) ∙ ap (λ n. drop n (t ∷ filter (is_about s) rows)) (sym here)
    own false e is rest =
        let few : count_about s before < COMPARED = grind (arith, nat_tests, e) in
        let count = count-own s before t is in
        let then : COMPARED - count_about s (before ++ t ∷ []) ≡ COMPARED - count_about s before - 1 = omega (arith, few, count) in
        rest ∙ ap (λ n. drop n (filter (is_about s) rows)) then ∙ sym (drop_more (COMPARED - count_about s before) t (filter (is_about s) rows) (omega (arith, few)))

    by : (b : Bool) → is_about s t ≡ b
        → filter (is_about s) (late_behind (before ++ t ∷ []) rows) ≡ drop (COMPARED - count_about s (before ++ t ∷ [])) (filter (is_about s) rows)
        → filter (is_about s) (late_behind before (t ∷ rows)) ≡ drop (COMPARED - count_about s before) (filter (is_about s) (t ∷ rows))
    by true e rest =
        let same : s ≡ t.s = same_term-true s t.s e in
        own (is_late before t) (ap (λ q. nat_le COMPARED (count_about q before)) same) e rest
        ∙ ap (λ b. drop (COMPARED - count_about s before) (cond b (t ∷ filter (is_about s) rows) (filter (is_about s) rows))) (sym e)
    by false e rest =
        passed (is_late before t) e ∙ rest ∙ ap (λ n. drop (COMPARED - n) (filter (is_about s) rows)) (count-other s before t e)
        ∙ ap (λ b. drop (COMPARED - count_about s before) (cond b (t ∷ filter (is_about s) rows) (filter (is_about s) rows))) (sym e)

-- ---- what is kept of them

slice_front : (xs : List ℕ) (x n : ℕ) → n < length xs → slice_get (xs ++ x ∷ []) n ≡ slice_get xs n
slice_front [] x n h = absurd (omega (arith, h))
slice_front (y ∷ xs) x zero h = refl
slice_front (y ∷ xs) x (suc n) h = slice_front xs x n (omega (arith, h))

slice_end : (xs : List ℕ) (x : ℕ) → slice_get (xs ++ x ∷ []) (length xs) ≡ Some x
slice_end [] x = refl
slice_end (y ∷ xs) x = slice_end xs x

slice_take : (n : ℕ) (xs : List ℕ) (k : ℕ) → k < n → slice_get (take n xs) k ≡ slice_get xs k
slice_take zero xs k h = absurd (omega (arith, h))
slice_take (suc n) [] k h = refl
slice_take (suc n) (y ∷ xs) zero h = refl
slice_take (suc n) (y ∷ xs) (suc k) h = slice_take n xs k (omega (arith, h))

take_first : (k n : ℕ) (rows : List Triple) → k ≤ n → take k (take n rows) ≡ take k rows
take_first zero n rows h = refl
take_first (suc k) zero rows h = absurd (omega (arith, h))
take_first (suc k) (suc n) [] h = refl
take_first (suc k) (suc n) (t ∷ rows) h = ap (λ l. t ∷ l) (take_first k n rows (omega (arith, h)))

-- after a new row
pub late-added : (old new : Late) (front rows : List Triple) (t : Triple) (late : Bool) → AreLate old front → rows ≡ front ++ t ∷ [] → late ≡ is_late front t
    → new.rows.keys ≡ cond late (old.rows.keys ++ t ∷ []) old.rows.keys → new.counts.items ≡ old.counts.items ++ length new.rows.keys ∷ [] → AreLate new rows
late-added old new front rows t late kept whole is keys counts =
    subst (AreLate new) (sym whole) (record {
      kept = all;
      as_long = ap length counts ∙ length-append old.counts.items (length new.rows.keys ∷ []) ∙ ap (λ n. n + 1) kept.as_long ∙ sym (length-append front (t ∷ []));
      counted = λ n h. ap (λ l. slice_get l n) counts ∙ each n h;
    })
  where
    all : new.rows.keys ≡ late_of (front ++ t ∷ [])
    all =
        keys ∙ ap (λ l. cond late (l ++ t ∷ []) l) kept.kept ∙ ap (λ b. cond b (late_of front ++ t ∷ []) (late_of front)) is ∙ sym (late-push front t)

    each : (n : ℕ) → n < length (front ++ t ∷ [])
        → slice_get (old.counts.items ++ length new.rows.keys ∷ []) n ≡ Some (length (late_of (take (suc n) (front ++ t ∷ []))))
    each n h = ⊎_elim before last (cases_lt n (length front))
      where
        long : length (front ++ t ∷ []) ≡ length front + 1
        long = length-append front (t ∷ [])

        before : n < length front → slice_get (old.counts.items ++ length new.rows.keys ∷ []) n ≡ Some (length (late_of (take (suc n) (front ++ t ∷ []))))
        before less =
            slice_front old.counts.items (length new.rows.keys) n (omega (arith, kept.as_long, less)) ∙ kept.counted n less
            ∙ ap (λ l. Some (length (late_of l))) (sym (take-append-le (suc n) front (t ∷ []) (omega (arith, less))))

        last : length front ≤ n → slice_get (old.counts.items ++ length new.rows.keys ∷ []) n ≡ Some (length (late_of (take (suc n) (front ++ t ∷ []))))
        last past =
            let at : n ≡ length old.counts.items = omega (arith, kept.as_long, h, past, long) in
            let end : suc n ≡ length (front ++ t ∷ []) = omega (arith, h, past, long) in
            ap (λ k. slice_get (old.counts.items ++ length new.rows.keys ∷ []) k) at ∙ slice_end old.counts.items (length new.rows.keys)
            ∙ ap (λ l. Some (length l)) all ∙ ap (λ l. Some (length (late_of l))) (sym (ap (λ k. take k (front ++ t ∷ [])) end ∙ take-length (front ++ t ∷ [])))

-- after a cut
pub late-cut : (old new : Late) (rows : List Triple) (n : ℕ) → AreLate old rows → n ≤ length rows → new.counts.items ≡ take n old.counts.items
    → new.rows.keys ≡ take (unwrap_or (slice_get new.counts.items (length new.counts.items - 1)) 0) old.rows.keys → AreLate new (take n rows)
late-cut old new rows n kept h counts keys = record {
  kept = keys ∙ ap (take (unwrap_or (slice_get new.counts.items (length new.counts.items - 1)) 0)) kept.kept ∙ first n h counts;
  as_long = ap length counts ∙ length-take-le n old.counts.items (omega (arith, kept.as_long, h)) ∙ sym (length-take-le n rows h);
  counted = λ k less.
      let short : length (take n rows) ≡ n = length-take-le n rows h in
      ap (λ l. slice_get l k) counts ∙ slice_take n old.counts.items k (omega (arith, short, less)) ∙ kept.counted k (omega (arith, short, less, h))
      ∙ ap (λ l. Some (length (late_of l))) (sym (take_first (suc k) n rows (omega (arith, short, less))));
}
  where
    first : (n : ℕ) → n ≤ length rows → new.counts.items ≡ take n old.counts.items
        → take (unwrap_or (slice_get new.counts.items (length new.counts.items - 1)) 0) (late_of rows) ≡ late_of (take n rows)
    first zero h counts = ap (λ (l : List ℕ). take (unwrap_or (slice_get l (length l - 1)) 0) (late_of rows)) counts
    first (suc m) h counts =
        let long : length (take (suc m) old.counts.items) ≡ suc m = length-take-le (suc m) old.counts.items (omega (arith, kept.as_long, h)) in
        let last : length (take (suc m) old.counts.items) - 1 ≡ m = omega (arith, long) in
        let read : slice_get (take (suc m) old.counts.items) m ≡ Some (length (late_of (take (suc m) rows))) =
        slice_take (suc m) old.counts.items m (omega arith) ∙ kept.counted m (omega (arith, h)) in
        ap (λ (l : List ℕ). take (unwrap_or (slice_get l (length l - 1)) 0) (late_of rows)) counts
        ∙ ap (λ k. take (unwrap_or (slice_get (take (suc m) old.counts.items) k) 0) (late_of rows)) last
        ∙ ap (λ o. take (unwrap_or o 0) (late_of rows)) read ∙ sym (late-take (suc m) rows)

-- ---- where a triple is

head_or : (u t : Triple) (rows : List Triple) → Contains (u ∷ rows) t → (u ≡ t) ⊎ Contains rows t
head_or u t rows (zero, h, e) = inl e
head_or u t rows (suc k, h, e) = inr (k, omega (arith, h), e)

in_tail : (u t : Triple) (rows : List Triple) → Contains rows t → Contains (u ∷ rows) t
in_tail u t rows h = Contains-append_right (u ∷ []) rows t h

at_head : (u t : Triple) (rows : List Triple) → u ≡ t → Contains (u ∷ rows) t
at_head u t rows e = (zero, omega arith, e)

-- among the rows of its subject
about : (rows : List Triple) (t : Triple) → Contains rows t → Contains (filter (is_about t.s) rows) t
about [] t (k, h, e) = absurd (omega (arith, h))
about (u ∷ rows) t h = by (is_about t.s u) refl (head_or u t rows h) (about rows t)
  where
    by : (b : Bool) → is_about t.s u ≡ b → (u ≡ t) ⊎ Contains rows t → (Contains rows t → Contains (filter (is_about t.s) rows) t)
        → Contains (cond b (u ∷ filter (is_about t.s) rows) (filter (is_about t.s) rows)) t
    by true e (inl same) rest = at_head u t (filter (is_about t.s) rows) same
    by true e (inr there) rest = in_tail u t (filter (is_about t.s) rows) (rest there)
    by false e (inl same) rest = absurd (true≢false (sym (same_term-itself t.s) ∙ ap (λ v. is_about t.s v) (sym same) ∙ e))
    by false e (inr there) rest = rest there

pub among : (s : Term) (rows : List Triple) (t : Triple) → Contains (filter (is_about s) rows) t → Contains rows t
among s [] t (k, h, e) = absurd (omega (arith, h))
among s (u ∷ rows) t h = by (is_about s u) h (among s rows t)
  where
    by : (b : Bool) → Contains (cond b (u ∷ filter (is_about s) rows) (filter (is_about s) rows)) t → (Contains (filter (is_about s) rows) t → Contains rows t) → Contains (u ∷ rows) t
    by true h rest =
        ⊎_elim (at_head u t rows) (λ (there : Contains (filter (is_about s) rows) t). in_tail u t rows (rest there)) (head_or u t (filter (is_about s) rows) h)
    by false h rest = in_tail u t rows (rest h)

own_split : (s : Term) (rows : List Triple) → filter (is_about s) rows ≡ take COMPARED (filter (is_about s) rows) ++ filter (is_about s) (late_of rows)
own_split s rows =
    sym (take-append-drop COMPARED (filter (is_about s) rows)) ∙ ap (λ l. take COMPARED (filter (is_about s) rows) ++ l) (sym (late-about s [] rows))

-- a late row is a row
pub late-row : (rows : List Triple) (t : Triple) → Contains (late_of rows) t → Contains rows t
late-row rows t h =
    among t.s rows t (subst (λ l. Contains l t) (sym (own_split t.s rows)) (Contains-append_right (take COMPARED (filter (is_about t.s) rows)) _ t (about (late_of rows) t h)))

-- no row where it is none of a subject's few
pub missing-few : (rows own : List Triple) (t : Triple) → own ≡ filter (is_about t.s) rows → (¬ Contains own t) → length own < COMPARED → (¬ Contains rows t) × (false ≡ is_late rows t)
missing-few rows own t is not_own few =
    ((λ there. not_own (subst (λ l. Contains l t) (sym is) (about rows t there))), sym (ap (λ (l : List Triple). nat_le COMPARED (length l)) (sym is) ∙ less (length own) few))
  where
    less : (n : ℕ) → n < COMPARED → nat_le COMPARED n ≡ false
    less n h = grind (arith, nat_tests, h)

-- or where it is neither one of its first nor a late one
pub missing-many : (rows own : List Triple) (t : Triple) → own ≡ filter (is_about t.s) rows → (¬ Contains (take COMPARED own) t) → COMPARED ≤ length own → (¬ Contains (late_of rows) t)
    → (¬ Contains rows t) × (true ≡ is_late rows t)
missing-many rows own t is not_first many not_late = (
  (λ there. ⊎_elim (λ (h : Contains (take COMPARED (filter (is_about t.s) rows)) t). not_first (subst (λ l. Contains (take COMPARED l) t) (sym is) h))
      (λ (h : Contains (filter (is_about t.s) (late_of rows)) t). not_late (among t.s (late_of rows) t h))
      (Contains-append_cases _ _ t (subst (λ l. Contains l t) (own_split t.s rows) (about rows t there)))),
  sym (ap (λ (l : List Triple). nat_le COMPARED (length l)) (sym is) ∙ more (length own) many),
)
  where
    more : (n : ℕ) → COMPARED ≤ n → nat_le COMPARED n ≡ true
    more n h = grind (arith, nat_tests, h)
