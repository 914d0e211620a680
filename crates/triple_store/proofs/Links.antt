-- The chain through the rows after one more row, and after one less.
use Rattle.std.proofs.Common.{◌≡◌, ◌≢◌, ℕ, zero, suc, ◌<◌, ◌≤◌, Bool, true, false, List, [], ◌∷◌, ◌++◌, length, set, slice_get, Some, refl, ap, sym, subst, ◌∙◌, true≢false, arith}
use Rattle.std.proofs.Math.Logic.{⊎_elim}
use Rattle.std.proofs.lemmas.Bool.{cases_lt}
use Rattle.std.proofs.lemmas.Option.{slice_get_within}
use Rattle.triple_store.specs.Index.{IsLast, AreNeighbours, LeadsOn, LeadsBack}

-- what stands at a place, in a longer list, in a shorter one and after a write
pub get-append : (xs ys : List ℕ) (i x : ℕ) → slice_get xs i ≡ Some x → slice_get (xs ++ ys) i ≡ Some x
get-append [] ys i x h = absurd (omega (arith, slice_get_within [] i x h))
get-append (y ∷ xs) ys zero x h = h
get-append (y ∷ xs) ys (suc i) x h = get-append xs ys i x h

pub get-end : (xs : List ℕ) (n x : ℕ) → length xs ≡ n → slice_get (xs ++ x ∷ []) n ≡ Some x
get-end xs n x h = subst (λ k. slice_get (xs ++ x ∷ []) k ≡ Some x) h (at xs)
  where
    at : (xs : List ℕ) → slice_get (xs ++ x ∷ []) (length xs) ≡ Some x
    at [] = refl
    at (y ∷ xs) = at xs

pub get-front : (xs : List ℕ) (y i x : ℕ) → i < length xs → slice_get (xs ++ y ∷ []) i ≡ Some x → slice_get xs i ≡ Some x
get-front [] y i x h e = absurd (omega arith)
get-front (z ∷ xs) y zero x h e = e
get-front (z ∷ xs) y (suc i) x h e = get-front xs y i x (omega arith) e

pub get-set_other : (xs : List ℕ) (l y i : ℕ) → i ≢ l → slice_get (set xs l y) i ≡ slice_get xs i
get-set_other [] l y i h = refl
get-set_other (x ∷ xs) zero y zero h = absurd (h refl)
get-set_other (x ∷ xs) zero y (suc i) h = refl
get-set_other (x ∷ xs) (suc l) y zero h = refl
get-set_other (x ∷ xs) (suc l) y (suc i) h = get-set_other xs l y i (λ e. h (ap suc e))

pub get-set_same : (xs : List ℕ) (l y : ℕ) → l < length xs → slice_get (set xs l y) l ≡ Some y
get-set_same [] l y h = absurd (omega arith)
get-set_same (x ∷ xs) zero y h = refl
get-set_same (x ∷ xs) (suc l) y h = get-set_same xs l y (omega arith)

-- the test of the rows before is that of the rows after below n, and nothing passes from n on
pub record Grows (old new : ℕ → Bool) (n : ℕ) : Type 0 where
  pub below : (k : ℕ) → k < n → new k ≡ old k
  pub ends : (k : ℕ) → n ≤ k → old k ≡ false
  pub past : (k : ℕ) → n < k → new k ≡ false

-- what passes lies below where nothing passes
pub under : (test : ℕ → Bool) (n k : ℕ) → ((k : ℕ) → n ≤ k → test k ≡ false) → test k ≡ true → k < n
under test n k ends p = ⊎_elim (λ (h : k < n). h) (λ (h : n ≤ k). absurd (true≢false (sym p ∙ ends k h))) (cases_lt k n)

pub under_past : (test : ℕ → Bool) (n k : ℕ) → ((k : ℕ) → n < k → test k ≡ false) → test k ≡ true → k ≤ n
under_past test n k past p = ⊎_elim (λ (h : n < k). absurd (true≢false (sym p ∙ past k h))) (λ (h : k ≤ n). h) (cases_lt n k)

-- neighbours of the front are neighbours of the whole
pub neighbours-more : (old new : ℕ → Bool) (n i j : ℕ) → Grows old new n → AreNeighbours old i j → AreNeighbours new i j
neighbours-more old new n i j g h =
    let j_below : j < n = under old n j g.ends h.passes_after in
    let i_below : i < n = under old n i g.ends h.passes_before in
    record {
      order = h.order;
      passes_before = g.below i i_below ∙ h.passes_before;
      passes_after = g.below j j_below ∙ h.passes_after;
      none_between = λ k above below. g.below k (omega arith) ∙ h.none_between k above below;
    }

-- neighbours of the whole before its end are neighbours of the front
pub neighbours-less : (old new : ℕ → Bool) (n i j : ℕ) → Grows old new n → AreNeighbours new i j → j < n → AreNeighbours old i j
neighbours-less old new n i j g h j_below =
    let order : i < j = h.order in
    record {
      order = h.order;
      passes_before = sym (g.below i (omega arith)) ∙ h.passes_before;
      passes_after = sym (g.below j j_below) ∙ h.passes_after;
      none_between = λ k above below. sym (g.below k (omega arith)) ∙ h.none_between k above below;
    }

-- the neighbour before a new place is the last one so far
pub before_end : (old new : ℕ → Bool) (n l i : ℕ) → Grows old new n → IsLast old l → AreNeighbours new i n → i ≡ l
before_end old new n l i g high h =
    let order : i < n = h.order in
    let l_below : l < n = under old n l g.ends high.passes in
    let here : old i ≡ true = sym (g.below i order) ∙ h.passes_before in
    ⊎_elim (λ (less : i < l). absurd (true≢false (sym (g.below l l_below ∙ high.passes) ∙ h.none_between l less l_below)))
    (λ (more : l ≤ i). ⊎_elim (λ (above : l < i). absurd (true≢false (sym here ∙ high.none_after i above))) (λ (below : i ≤ l). omega arith) (cases_lt l i)) (cases_lt i l)

-- where no place passed, one more gives no neighbours
no_neighbours : (old new : ℕ → Bool) (n i j : ℕ) → Grows old new n → ((k : ℕ) → old k ≡ false) → AreNeighbours new i j → ⊥
no_neighbours old new n i j g none h =
    let order : i < j = h.order in
    let within : j ≤ n = under_past new n j g.past h.passes_after in
    true≢false (sym h.passes_before ∙ g.below i (omega arith) ∙ none i)

-- the chain with a first row of a subject
pub on-first : (next : List ℕ) (old new : ℕ → Bool) (n x : ℕ) → Grows old new n → ((k : ℕ) → old k ≡ false) → LeadsOn (next ++ x ∷ []) new
on-first next old new n x g none i j h = absurd (no_neighbours old new n i j g none h)

pub back-first : (previous : List ℕ) (old new : ℕ → Bool) (n x : ℕ) → Grows old new n → ((k : ℕ) → old k ≡ false) → LeadsBack (previous ++ x ∷ []) new
back-first previous old new n x g none i j h = absurd (no_neighbours old new n i j g none h)

-- the chain with a further row of a subject
pub on-further : (next : List ℕ) (old new : ℕ → Bool) (n l x : ℕ) → Grows old new n → IsLast old l → length next ≡ n → LeadsOn next old → LeadsOn (set next l n ++ x ∷ []) new
on-further next old new n l x g high as_long on i j h =
    let within : j ≤ n = under_past new n j g.past h.passes_after in
    ⊎_elim (λ (less : j < n). front less) (λ (end : n ≤ j). let same : j ≡ n = omega arith in at_end same) (cases_lt j n)
  where
    l_below : l < n
    l_below = under old n l g.ends high.passes

    at_end : j ≡ n → slice_get (set next l n ++ x ∷ []) i ≡ Some j
    at_end same =
        let is_last : i ≡ l = before_end old new n l i g high (subst (λ k. AreNeighbours new i k) same h) in
        get-append (set next l n) (x ∷ []) i j (subst (λ k. slice_get (set next l n) k ≡ Some j) (sym is_last) (get-set_same next l n (omega arith) ∙ ap Some (sym same)))

    front : j < n → slice_get (set next l n ++ x ∷ []) i ≡ Some j
    front less =
        let older : AreNeighbours old i j = neighbours-less old new n i j g h less in
        let order : i < j = h.order in
        let other : i ≢ l = λ e. true≢false (sym older.passes_after ∙ high.none_after j (omega (arith, e))) in
        get-append (set next l n) (x ∷ []) i j (get-set_other next l n i other ∙ on i j older)

pub back-further : (previous : List ℕ) (old new : ℕ → Bool) (n l : ℕ) → Grows old new n → IsLast old l → length previous ≡ n → LeadsBack previous old → LeadsBack (previous ++ l ∷ []) new
back-further previous old new n l g high as_long back i j h =
    let within : j ≤ n = under_past new n j g.past h.passes_after in
    ⊎_elim (λ (less : j < n). get-append previous (l ∷ []) j i (back i j (neighbours-less old new n i j g h less)))
    (λ (end : n ≤ j). let same : j ≡ n = omega arith in at_end same) (cases_lt j n)
  where
    at_end : j ≡ n → slice_get (previous ++ l ∷ []) j ≡ Some i
    at_end same =
        let is_last : i ≡ l = before_end old new n l i g high (subst (λ k. AreNeighbours new i k) same h) in
        get-end previous j l (as_long ∙ sym same) ∙ ap Some (sym is_last)

-- the chain of other subjects
pub on-other : (next : List ℕ) (test : ℕ → Bool) (n l x : ℕ) → test l ≡ false → LeadsOn next test → LeadsOn (set next l n ++ x ∷ []) test
on-other next test n l x none on i j h =
    get-append (set next l n) (x ∷ []) i j (get-set_other next l n i (λ e. true≢false (sym h.passes_before ∙ ap test e ∙ none)) ∙ on i j h)

pub on-longer : (next : List ℕ) (test : ℕ → Bool) (x : ℕ) → LeadsOn next test → LeadsOn (next ++ x ∷ []) test
on-longer next test x on i j h = get-append next (x ∷ []) i j (on i j h)

pub back-longer : (previous : List ℕ) (test : ℕ → Bool) (x : ℕ) → LeadsBack previous test → LeadsBack (previous ++ x ∷ []) test
back-longer previous test x back i j h = get-append previous (x ∷ []) j i (back i j h)

-- the chain without its last row
pub on-less : (next : List ℕ) (old new : ℕ → Bool) (n x : ℕ) → Grows old new n → length next ≡ n → LeadsOn (next ++ x ∷ []) new → LeadsOn next old
on-less next old new n x g as_long on i j h =
    let i_below : i < n = under old n i g.ends h.passes_before in
    get-front next x i j (omega arith) (on i j (neighbours-more old new n i j g h))

pub back-less : (previous : List ℕ) (old new : ℕ → Bool) (n x : ℕ) → Grows old new n → length previous ≡ n → LeadsBack (previous ++ x ∷ []) new → LeadsBack previous old
back-less previous old new n x g as_long back i j h =
    let j_below : j < n = under old n j g.ends h.passes_after in
    get-front previous x j i (omega arith) (back i j (neighbours-more old new n i j g h))
