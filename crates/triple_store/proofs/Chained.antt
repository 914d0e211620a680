-- The chain of one subject after one more row, and after one less.
use Rattle.std.proofs.Common.{◌≡◌, ◌≢◌, ℕ, ◌<◌, ◌≤◌, Bool, true, false, List, [], ◌∷◌, ◌++◌, length, set, Option, Some, None, ap, sym, subst, ◌∙◌, arith}
use Rattle.std.proofs.Math.Logic.{⊎_elim}
use Rattle.std.proofs.lemmas.Bool.{cases_lt}
use Rattle.triple_store.specs.Index.{IsFirst, IsLast, AreNeighbours, LeadsOn, LeadsBack, AreChained}
use Rattle.triple_store.specs.declared.subjects.Ends.{Ends}
use Rattle.triple_store.proofs.Passing.{previous_of, ends_in_order, not_above}
use Rattle.triple_store.proofs.Links.{Grows, under, under_past, get-end, on-first, back-first, on-further, back-further, on-less, back-less}

some_same : (a b : Ends) → Some a ≡ Some b → a ≡ b
some_same a b e = cc

not_none : (o : Option Ends) (a : Ends) → o ≡ Some a → o ≡ None → ⊥
not_none o a p q = cc

some_nat : (a b : ℕ) → Some a ≡ Some b → a ≡ b
some_nat a b e = cc

-- where the row at the end has a subject, it is the last of it
last_is_end : (test : ℕ → Bool) (n l : ℕ) → ((k : ℕ) → n < k → test k ≡ false) → test n ≡ true → IsLast test l → l ≡ n
last_is_end test n l past here high =
    let up : l ≤ n = under_past test n l past high.passes in
    let down : n ≤ l = not_above test n l high here in
    omega arith

-- the first row of a subject
pub chained-first : (next previous : List ℕ) (o made : Option Ends) (e : Ends) (old new : ℕ → Bool) (n : ℕ)
    → Grows old new n → new n ≡ true → AreChained next previous o old → o ≡ None → made ≡ Some e → e.first ≡ n → e.last ≡ n
    → AreChained (next ++ n ∷ []) (previous ++ n ∷ []) made new
chained-first next previous o made e old new n g here chained absent is first last =
    let none : (k : ℕ) → old k ≡ false = chained.none absent in
    record {
      on = on-first next old new n n g none;
      back = back-first previous old new n n g none;
      none = λ h. absurd (not_none made e is h);
      first = λ a h. subst (IsFirst new) (sym first ∙ ap Ends.first (some_same e a (sym is ∙ h))) (record { passes = here; none_before = λ k below. g.below k below ∙ none k });
      last = λ a h. subst (IsLast new) (sym last ∙ ap Ends.last (some_same e a (sym is ∙ h))) (record { passes = here; none_after = g.past });
    }

-- a further row of a subject
pub chained-further : (next previous : List ℕ) (o made : Option Ends) (d e : Ends) (old new : ℕ → Bool) (n : ℕ)
    → Grows old new n → new n ≡ true → AreChained next previous o old → length next ≡ n → length previous ≡ n → o ≡ Some d → made ≡ Some e → e.first ≡ d.first → e.last ≡ n
    → AreChained (set next d.last n ++ n ∷ []) (previous ++ d.last ∷ []) made new
chained-further next previous o made d e old new n g here chained next_long previous_long was is first last =
    let low : IsFirst old d.first = chained.first d was in
    let high : IsLast old d.last = chained.last d was in
    let below : d.first < n = under old n d.first g.ends low.passes in
    record {
      on = on-further next old new n d.last n g high next_long chained.on;
      back = back-further previous old new n d.last g high previous_long chained.back;
      none = λ h. absurd (not_none made e is h);
      first = λ a h. subst (IsFirst new) (sym first ∙ ap Ends.first (some_same e a (sym is ∙ h)))
          (record { passes = g.below d.first below ∙ low.passes; none_before = λ k less. g.below k (omega arith) ∙ low.none_before k less });
      last = λ a h. subst (IsLast new) (sym last ∙ ap Ends.last (some_same e a (sym is ∙ h))) (record { passes = here; none_after = g.past });
    }

-- the last of several rows of a subject goes
pub chained-shorter : (next previous : List ℕ) (o made : Option Ends) (d e : Ends) (old new : ℕ → Bool) (n x p : ℕ)
    → Grows old new n → new n ≡ true → AreChained (next ++ x ∷ []) (previous ++ p ∷ []) o new → length next ≡ n → length previous ≡ n → o ≡ Some d → d.first ≢ d.last
    → made ≡ Some e → e.first ≡ d.first → e.last ≡ p → AreChained next previous made old
chained-shorter next previous o made d e old new n x p g here chained next_long previous_long was differ is first last =
    let low : IsFirst new d.first = chained.first d was in
    let high : IsLast new d.last = chained.last d was in
    let at_end : d.last ≡ n = last_is_end new n d.last g.past here high in
    let order : d.first ≤ d.last = ends_in_order new d.first d.last low high.passes in
    let below : d.first < n = omega arith in
    let before = previous_of new d.first n below low.passes here in
    let near : AreNeighbours new before.0 n = before.1 in
    let near_order : before.0 < n = near.order in
    let kept : before.0 ≡ p = some_nat before.0 p (sym (chained.back before.0 n near) ∙ get-end previous n p previous_long) in
    record {
      on = on-less next old new n x g next_long chained.on;
      back = back-less previous old new n p g previous_long chained.back;
      none = λ h. absurd (not_none made e is h);
      first = λ a h. subst (IsFirst old) (sym first ∙ ap Ends.first (some_same e a (sym is ∙ h)))
          (record { passes = sym (g.below d.first below) ∙ low.passes; none_before = λ k less. sym (g.below k (omega arith)) ∙ low.none_before k less });
      last = λ a h. subst (IsLast old) (kept ∙ sym last ∙ ap Ends.last (some_same e a (sym is ∙ h))) (record {
        passes = sym (g.below before.0 near_order) ∙ near.passes_before;
        none_after = λ k above.
            ⊎_elim (λ (less : k < n). sym (g.below k less) ∙ near.none_between k above less) (λ (more : n ≤ k). g.ends k more) (cases_lt k n);
      });
    }

-- the only row of a subject goes
pub chained-gone : (next previous : List ℕ) (o made : Option Ends) (d : Ends) (old new : ℕ → Bool) (n x p : ℕ)
    → Grows old new n → new n ≡ true → AreChained (next ++ x ∷ []) (previous ++ p ∷ []) o new → length next ≡ n → length previous ≡ n → o ≡ Some d → d.first ≡ d.last
    → made ≡ None → AreChained next previous made old
chained-gone next previous o made d old new n x p g here chained next_long previous_long was same is =
    let low : IsFirst new d.first = chained.first d was in
    let high : IsLast new d.last = chained.last d was in
    let at_end : d.last ≡ n = last_is_end new n d.last g.past here high in
    record {
      on = on-less next old new n x g next_long chained.on;
      back = back-less previous old new n p g previous_long chained.back;
      none = λ h k. ⊎_elim (λ (less : k < n). sym (g.below k less) ∙ low.none_before k (omega arith)) (λ (more : n ≤ k). g.ends k more) (cases_lt k n);
      first = λ a h. absurd (not_none made a h is);
      last = λ a h. absurd (not_none made a h is);
    }

-- a row of another subject comes or goes
pub chained-same : (next previous new_next new_previous : List ℕ) (o made : Option Ends) (old new : ℕ → Bool) → AreChained next previous o old → made ≡ o → old ≡ new
    → LeadsOn new_next old → LeadsBack new_previous old → AreChained new_next new_previous made new
chained-same next previous new_next new_previous o made old new chained same tests on back =
    subst (λ test. AreChained new_next new_previous made test) tests (record {
      on = on;
      back = back;
      none = λ h. chained.none (sym same ∙ h);
      first = λ a h. chained.first a (sym same ∙ h);
      last = λ a h. chained.last a (sym same ∙ h);
    })
