-- The chains of all subjects after one more row, and after one less.
use Rattle.std.proofs.Common.{◌≡◌, ◌≢◌, ℕ, ◌+◌, ◌-◌, ◌<◌, Bool, true, false, List, [], ◌∷◌, ◌++◌, length, take, set, Option, Some, None, refl, ap, sym, subst, ◌∙◌, true≢false, arith, length-append}
use Rattle.std.proofs.lemmas.List.{length-set}
use Rattle.std.specs.Option.{IsSome, option_to_list}
use Rattle.std.specs.Vec.{vec_len}
use Rattle.triple_store.specs.Index.{is_about, is_about_at, ends_of, AreChained, AreIndexed}
use Rattle.triple_store.specs.Triples.{same_term}
use Rattle.triple_store.specs.declared.subjects.Ends.{Ends}
use Rattle.triple_store.specs.declared.subjects.Subjects.{Subjects}
use Rattle.triple_store.specs.declared.term.Term.{Term}
use Rattle.triple_store.specs.declared.term.Triple.{Triple}
use Rattle.triple_store.proofs.Changes.{Sets, sets-own, sets-other}
use Rattle.triple_store.proofs.Chained.{chained-first, chained-further, chained-shorter, chained-gone, chained-same}
use Rattle.triple_store.proofs.Links.{Grows, on-longer, on-other, on-less, back-longer, back-less}
use Rattle.triple_store.proofs.Rows.{about-past, about-within, about-front, about-end, about-other, about-one}
use Rattle.triple_store.proofs.SameTerm.{same_term-true, same_term-itself, same_term-swapped}

-- one more row
grows : (q : Term) (front : List Triple) (t : Triple) → Grows (is_about_at q front) (is_about_at q (front ++ t ∷ [])) (length front)
grows q front t = record {
  below = about-front q front t;
  ends = about-past q front;
  past = λ k h. about-past q (front ++ t ∷ []) k (omega (arith, length-append front (t ∷ [])));
}

-- either it has the subject, or it adds nothing to it
by_subject : (q : Term) (t : Triple) (P : Term → Type 0) → P t.s → (is_about q t ≡ false → P q) → P q
by_subject q t P own other = by (is_about q t) refl
  where
    by : (b : Bool) → is_about q t ≡ b → P q
    by true e = subst P (sym (same_term-true q t.s e)) own
    by false e = other e

swapped : (q : Term) (t : Triple) → is_about q t ≡ false → same_term t.s q ≡ false
swapped q t e = same_term-swapped t.s q ∙ e

own_row : (front : List Triple) (t : Triple) → is_about_at t.s (front ++ t ∷ []) (length front) ≡ true
own_row front t = about-end t.s front t ∙ same_term-itself t.s

-- a subject's first row
pub indexed-first : (old new : Subjects) (front rows : List Triple) (t : Triple) (e : Ends) (n : ℕ) → AreIndexed old front → rows ≡ front ++ t ∷ [] → n ≡ length front
    → ends_of old t.s ≡ None → Sets (ends_of old) t.s (Some e) (ends_of new) → e.first ≡ n → e.last ≡ n
    → new.next.items ≡ old.next.items ++ n ∷ [] → new.previous.items ≡ old.previous.items ++ n ∷ [] → AreIndexed new rows
indexed-first old new front rows t e n indexed whole at was sets first last next previous =
    subst (AreIndexed new) (sym whole) (record {
      next_as_long = ap length next ∙ length-append old.next.items (n ∷ []) ∙ ap (λ k. k + 1) indexed.next_as_long ∙ sym (length-append front (t ∷ []));
      previous_as_long = ap length previous ∙ length-append old.previous.items (n ∷ []) ∙ ap (λ k. k + 1) indexed.previous_as_long ∙ sym (length-append front (t ∷ []));
      each = λ q. by_subject q t (λ q. AreChained new.next.items new.previous.items (ends_of new q) (is_about_at q (front ++ t ∷ []))) own (other q);
    })
  where
    own : AreChained new.next.items new.previous.items (ends_of new t.s) (is_about_at t.s (front ++ t ∷ []))
    own =
        let set_own : ends_of new t.s ≡ Some e = sets-own (ends_of old) (ends_of new) t.s (Some e) sets in
        rw (next, previous) (subst (λ k. AreChained (old.next.items ++ k ∷ []) (old.previous.items ++ k ∷ []) (ends_of new t.s) (is_about_at t.s (front ++ t ∷ []))) (sym at)
        (chained-first old.next.items old.previous.items (ends_of old t.s) (ends_of new t.s) e _ _ (length front) (grows t.s front t) (own_row front t) (indexed.each t.s) was set_own (first ∙ at) (last ∙ at)))

    other : (q : Term) → is_about q t ≡ false → AreChained new.next.items new.previous.items (ends_of new q) (is_about_at q (front ++ t ∷ []))
    other q e_not =
        let had = indexed.each q in
        chained-same old.next.items old.previous.items new.next.items new.previous.items (ends_of old q) (ends_of new q) (is_about_at q front) (is_about_at q (front ++ t ∷ [])) had
        (sets-other (ends_of old) (ends_of new) t.s (Some e) q sets (swapped q t e_not)) (about-other q front t e_not)
        (rw next (on-longer old.next.items (is_about_at q front) n had.on)) (rw previous (back-longer old.previous.items (is_about_at q front) n had.back))

-- a subject's further row
pub indexed-further : (old new : Subjects) (front rows : List Triple) (t : Triple) (d e : Ends) (n : ℕ) → AreIndexed old front → rows ≡ front ++ t ∷ [] → n ≡ length front
    → ends_of old t.s ≡ Some d → Sets (ends_of old) t.s (Some e) (ends_of new) → e.first ≡ d.first → e.last ≡ n
    → new.next.items ≡ set old.next.items d.last n ++ n ∷ [] → new.previous.items ≡ old.previous.items ++ d.last ∷ [] → AreIndexed new rows
indexed-further old new front rows t d e n indexed whole at was sets first last next previous =
    subst (AreIndexed new) (sym whole) (record {
      next_as_long = ap length next ∙ length-append (set old.next.items d.last n) (n ∷ []) ∙ ap (λ k. k + 1) (length-set old.next.items d.last n ∙ indexed.next_as_long) ∙ sym (length-append front (t ∷ []));
      previous_as_long = ap length previous ∙ length-append old.previous.items (d.last ∷ []) ∙ ap (λ k. k + 1) indexed.previous_as_long ∙ sym (length-append front (t ∷ []));
      each = λ q. by_subject q t (λ q. AreChained new.next.items new.previous.items (ends_of new q) (is_about_at q (front ++ t ∷ []))) own (other q);
    })
  where
    own : AreChained new.next.items new.previous.items (ends_of new t.s) (is_about_at t.s (front ++ t ∷ []))
    own =
        let set_own : ends_of new t.s ≡ Some e = sets-own (ends_of old) (ends_of new) t.s (Some e) sets in
        rw (next, previous) (subst (λ k. AreChained (set old.next.items d.last k ++ k ∷ []) (old.previous.items ++ d.last ∷ []) (ends_of new t.s) (is_about_at t.s (front ++ t ∷ []))) (sym at)
        (chained-further old.next.items old.previous.items (ends_of old t.s) (ends_of new t.s) d e _ _ (length front) (grows t.s front t) (own_row front t) (indexed.each t.s)
        indexed.next_as_long indexed.previous_as_long was set_own first (last ∙ at)))

    apart : (q : Term) → is_about q t ≡ false → (b : Bool) → is_about_at q front d.last ≡ b → is_about_at q front d.last ≡ false
    apart q e_not false p = p
    apart q e_not true p =
        let same : q ≡ t.s = about-one q t.s front d.last p ((indexed.each t.s).last d was).passes in
        absurd (true≢false (sym (same_term-itself t.s) ∙ ap (λ s. same_term s t.s) (sym same) ∙ e_not))

    other : (q : Term) → is_about q t ≡ false → AreChained new.next.items new.previous.items (ends_of new q) (is_about_at q (front ++ t ∷ []))
    other q e_not =
        let had = indexed.each q in
        chained-same old.next.items old.previous.items new.next.items new.previous.items (ends_of old q) (ends_of new q) (is_about_at q front) (is_about_at q (front ++ t ∷ [])) had
        (sets-other (ends_of old) (ends_of new) t.s (Some e) q sets (swapped q t e_not)) (about-other q front t e_not)
        (rw next (on-other old.next.items (is_about_at q front) n d.last n (apart q e_not _ refl) had.on)) (rw previous (back-longer old.previous.items (is_about_at q front) d.last had.back))

-- one list is the other and one more
shorter : (xs ys : List ℕ) (x : ℕ) (front : List Triple) (t : Triple) → xs ≡ ys ++ x ∷ [] → length xs ≡ length (front ++ t ∷ []) → length ys ≡ length front
shorter xs ys x front t e h = omega (arith, ap length e, length-append ys (x ∷ []), length-append front (t ∷ []))

-- the subject of the row that goes has what `own` says, and the others have what they had
less : (old new : Subjects) (front rows : List Triple) (t : Triple) (o : Option Ends) (x p : ℕ) → AreIndexed old (front ++ t ∷ [])
    → Sets (ends_of old) t.s o (ends_of new) → old.next.items ≡ new.next.items ++ x ∷ [] → old.previous.items ≡ new.previous.items ++ p ∷ []
    → AreChained new.next.items new.previous.items (ends_of new t.s) (is_about_at t.s front) → AreIndexed new front
less old new front rows t o x p indexed sets next previous own = record {
  next_as_long = next_long;
  previous_as_long = previous_long;
  each = λ q. by_subject q t (λ q. AreChained new.next.items new.previous.items (ends_of new q) (is_about_at q front)) own (other q);
}
  where
    next_long : length new.next.items ≡ length front
    next_long = shorter old.next.items new.next.items x front t next indexed.next_as_long

    previous_long : length new.previous.items ≡ length front
    previous_long = shorter old.previous.items new.previous.items p front t previous indexed.previous_as_long

    other : (q : Term) → is_about q t ≡ false → AreChained new.next.items new.previous.items (ends_of new q) (is_about_at q front)
    other q e_not =
        let had = indexed.each q in
        let whole = is_about_at q (front ++ t ∷ []) in
        let same : is_about_at q front ≡ whole = about-other q front t e_not in
        let still : Grows whole whole (length front) = subst (λ test. Grows test whole (length front)) same (grows q front t) in
        chained-same old.next.items old.previous.items new.next.items new.previous.items (ends_of old q) (ends_of new q) whole (is_about_at q front) had
        (sets-other (ends_of old) (ends_of new) t.s o q sets (swapped q t e_not)) (sym same)
        (on-less new.next.items whole whole (length front) x still next_long (rw (← next) had.on)) (back-less new.previous.items whole whole (length front) p still previous_long (rw (← previous) had.back))

-- what was chained at the subject of the row that goes
own_chain : (old new : Subjects) (front : List Triple) (t : Triple) (x p : ℕ) → AreIndexed old (front ++ t ∷ [])
    → old.next.items ≡ new.next.items ++ x ∷ [] → old.previous.items ≡ new.previous.items ++ p ∷ []
    → AreChained (new.next.items ++ x ∷ []) (new.previous.items ++ p ∷ []) (ends_of old t.s) (is_about_at t.s (front ++ t ∷ []))
own_chain old new front t x p indexed next previous = rw (← next, ← previous) (indexed.each t.s)

-- without the last of several rows of a subject
pub indexed-shorter : (old new : Subjects) (front rows : List Triple) (t : Triple) (d e : Ends) (x p : ℕ) → AreIndexed old rows → rows ≡ front ++ t ∷ []
    → ends_of old t.s ≡ Some d → d.first ≢ d.last → Sets (ends_of old) t.s (Some e) (ends_of new) → e.first ≡ d.first → e.last ≡ p
    → old.next.items ≡ new.next.items ++ x ∷ [] → old.previous.items ≡ new.previous.items ++ p ∷ [] → AreIndexed new front
indexed-shorter old new front rows t d e x p kept whole was differ sets first last next previous =
    let indexed : AreIndexed old (front ++ t ∷ []) = subst (AreIndexed old) whole kept in
    let set_own : ends_of new t.s ≡ Some e = sets-own (ends_of old) (ends_of new) t.s (Some e) sets in
    less old new front rows t (Some e) x p indexed sets next previous
    (chained-shorter new.next.items new.previous.items (ends_of old t.s) (ends_of new t.s) d e _ _ (length front) x p (grows t.s front t) (own_row front t) (own_chain old new front t x p indexed next previous)
    (shorter old.next.items new.next.items x front t next indexed.next_as_long) (shorter old.previous.items new.previous.items p front t previous indexed.previous_as_long) was differ set_own first last)

-- without the only row of a subject
pub indexed-gone : (old new : Subjects) (front rows : List Triple) (t : Triple) (d : Ends) (x p : ℕ) → AreIndexed old rows → rows ≡ front ++ t ∷ []
    → ends_of old t.s ≡ Some d → d.first ≡ d.last → Sets (ends_of old) t.s None (ends_of new)
    → old.next.items ≡ new.next.items ++ x ∷ [] → old.previous.items ≡ new.previous.items ++ p ∷ [] → AreIndexed new front
indexed-gone old new front rows t d x p kept whole was same sets next previous =
    let indexed : AreIndexed old (front ++ t ∷ []) = subst (AreIndexed old) whole kept in
    let set_own : ends_of new t.s ≡ None = sets-own (ends_of old) (ends_of new) t.s None sets in
    less old new front rows t None x p indexed sets next previous
    (chained-gone new.next.items new.previous.items (ends_of old t.s) (ends_of new t.s) d _ _ (length front) x p (grows t.s front t) (own_row front t) (own_chain old new front t x p indexed next previous)
    (shorter old.next.items new.next.items x front t next indexed.next_as_long) (shorter old.previous.items new.previous.items p front t previous indexed.previous_as_long) was same set_own)

-- the row at the end has ends
pub has_ends : (old : Subjects) (front rows : List Triple) (t : Triple) → AreIndexed old rows → rows ≡ front ++ t ∷ [] → ends_of old t.s ≡ None → ⊥
has_ends old front rows t kept whole none =
    let indexed : AreIndexed old (front ++ t ∷ []) = subst (AreIndexed old) whole kept in
    true≢false (sym (own_row front t) ∙ (indexed.each t.s).none none (length front))

-- the rows before the last one
pub front_of : (rows front : List Triple) (t : Triple) → rows ≡ front ++ t ∷ [] → take (length rows - 1) rows ≡ front
front_of rows front t whole =
    let count : length rows - 1 ≡ length front = omega (arith, ap length whole, length-append front (t ∷ [])) in
    rw (count, whole) (all front)
  where
    all : (front : List Triple) → take (length front) (front ++ t ∷ []) ≡ front
    all [] = refl
    all (u ∷ front) = ap (λ l. u ∷ l) (all front)

-- the last row of a subject is a row
pub last_within : (subjects : Subjects) (front : List Triple) (s : Term) (d : Ends) → AreIndexed subjects front → ends_of subjects s ≡ Some d → d.last < length subjects.next.items
last_within subjects front s d indexed was = omega (arith, about-within s front d.last ((indexed.each s).last d was).passes, indexed.next_as_long)

-- what `pop` takes from the links
pub taken : (subjects : Subjects) (front rows : List Triple) (t : Triple) → AreIndexed subjects rows → rows ≡ front ++ t ∷ [] → (new : List ℕ) (r : Option ℕ)
    → subjects.next.items ≡ new ++ option_to_list r → (0 < vec_len subjects.next → IsSome r) → (x : ℕ) × (subjects.next.items ≡ new ++ x ∷ [])
taken subjects front rows t indexed whole new (Some x) e some = (x, e)
taken subjects front rows t indexed whole new None e some =
    let count : length subjects.next.items ≡ length front + 1 = indexed.next_as_long ∙ ap length whole ∙ length-append front (t ∷ []) in
    absurd (true≢false (sym (some (omega (arith, count, subjects.next.ok)))))
