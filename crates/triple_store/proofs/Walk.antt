-- A walk along the chain of a subject.
use Rattle.std.proofs.Common.{◌≡◌, ◌≢◌, ℕ, zero, suc, ◌<◌, ◌≤◌, Bool, true, false, cond, ◌&&◌, List, [], ◌∷◌, length, drop, filter, slice_get, get_or, Option, Some, None, refl, ap, sym, subst, ◌∙◌, arith}
use Rattle.std.specs.Option.{MatchOption}
use Rattle.std.proofs.lemmas.Option.{slice_get_read}
use Rattle.triple_store.specs.Chain.{about_first, rows_left, IsChain}
use Rattle.triple_store.specs.Index.{is_about, is_about_at, ends_of, IsFirst, IsLast, AreNeighbours, AreIndexed}
use Rattle.triple_store.specs.Triples.{agrees, allows}
use Rattle.triple_store.specs.declared.subjects.Ends.{Ends}
use Rattle.triple_store.specs.declared.subjects.Subjects.{Subjects}
use Rattle.triple_store.specs.declared.term.Term.{Term}
use Rattle.triple_store.specs.declared.term.Triple.{Triple}
use Rattle.triple_store.proofs.Rows.{about-within, about-one, about-own, about_first-drop, filter-skip, filter-none, drop-row}
use Rattle.triple_store.proofs.Passing.{next_of, ends_in_order}

some_same : (a b : Ends) → Some a ≡ Some b → a ≡ b
some_same a b e = cc

some_nat : (a b : ℕ) → Some a ≡ Some b → a ≡ b
some_nat a b e = cc

-- from a subject's first row on stand all its rows
all_left : (rows : List Triple) (q : Term) (o : Option Ends) → (o ≡ None → (place : ℕ) → is_about_at q rows place ≡ false)
    → ((e : Ends) → o ≡ Some e → IsFirst (is_about_at q rows) e.first) → rows_left rows o ≡ filter (is_about q) rows
all_left rows q None none first = sym (filter-none q rows zero (λ k above. none refl k))
all_left rows q (Some e) none first =
    let low : IsFirst (is_about_at q rows) e.first = first e refl in
    about_first-drop q rows e.first low.passes ∙ sym (filter-skip q rows zero e.first (omega arith) (λ k above below. low.none_before k below))

-- the chain of a subject has all its rows
pub own_rows : (subjects : Subjects) (rows all : List Triple) (s : Term) (left : Option Ends) (those : List Triple)
    → AreIndexed subjects rows → rows ≡ all → left ≡ ends_of subjects s → those ≡ rows_left rows left → those ≡ filter (is_about s) all
own_rows subjects rows all s left those indexed same is got =
    let chained = indexed.each s in
    got ∙ ap (rows_left rows) is ∙ all_left rows s (ends_of subjects s) chained.none chained.first ∙ ap (filter (is_about s)) same

-- what is kept for a subject is a chain
pub chain_of : (subjects : Subjects) (rows : List Triple) (next : List ℕ) (s : Term) (o : Option Ends) → AreIndexed subjects rows → next ≡ subjects.next.items
    → o ≡ ends_of subjects s → IsChain rows next o
chain_of subjects rows next s o indexed same is = record {
  as_long = ap length same ∙ indexed.next_as_long;
  on = λ q. rw same (indexed.each q).on;
  within = λ e h.
      let chained = indexed.each s in
      let high : IsLast (is_about_at s rows) e.last = chained.last e (sym is ∙ h) in
      (ends_in_order (is_about_at s rows) e.first e.last (chained.first e (sym is ∙ h)) high.passes, about-within s rows e.last high.passes);
  last = λ e h q here.
      let chained = indexed.each s in
      let one : s ≡ q = about-one s q rows e.first (chained.first e (sym is ∙ h)).passes here in
      subst (λ t. IsLast (is_about_at t rows) e.last) one (chained.last e (sym is ∙ h));
}

-- a pattern with a subject is the pattern without it, among the rows with the subject
filter-agrees : (s : Term) (p o : Option Term) (rows : List Triple)
    → filter (agrees (Some s) p o) rows ≡ filter (agrees None p o) (filter (is_about s) rows)
filter-agrees s p o [] = refl
filter-agrees s p o (t ∷ rows) = by (is_about s t) (filter-agrees s p o rows)
  where
    by : (b : Bool) → filter (agrees (Some s) p o) rows ≡ filter (agrees None p o) (filter (is_about s) rows)
        → cond (b && (allows p t.p && allows o t.o)) (t ∷ filter (agrees (Some s) p o) rows) (filter (agrees (Some s) p o) rows)
        ≡ filter (agrees None p o) (cond b (t ∷ filter (is_about s) rows) (filter (is_about s) rows))
    by true rest = ap (λ l. cond (allows p t.p && allows o t.o) (t ∷ l) l) rest
    by false rest = rest

-- what is looked for along the chain of a subject is what is looked for among all rows
pub matching_chain : (subjects : Subjects) (rows all : List Triple) (s p o : Option Term) (subject : Term) (left : Option Ends) (those result : List Triple)
    → AreIndexed subjects rows → rows ≡ all → s ≡ Some subject → left ≡ ends_of subjects subject → those ≡ rows_left rows left → result ≡ filter (agrees None p o) those
    → result ≡ filter (agrees s p o) all
matching_chain subjects rows all s p o subject left those result indexed same given is found got =
    let chained = indexed.each subject in
    got ∙ ap (filter (agrees None p o)) (found ∙ ap (rows_left rows) is ∙ all_left rows subject (ends_of subjects subject) chained.none chained.first)
    ∙ sym (filter-agrees subject p o rows) ∙ ap (λ w. filter (agrees w p o) rows) (sym given) ∙ ap (filter (agrees s p o)) same

-- what a step gives, and where it leads
abbrev pub Steps : List ℕ → Ends → Option Ends → Type 0
Steps next ends o = MatchOption o (ends.first ≡ ends.last) (λ left. (ends.first ≢ ends.last) × (slice_get next ends.first ≡ Some left.first) × (left.last ≡ ends.last))

-- the row after the first one
after_first : (rows : List Triple) (next : List ℕ) (ends left : Ends) (row : Triple) → IsChain rows next (Some ends) → slice_get rows ends.first ≡ Some row
    → ends.first ≢ ends.last → slice_get next ends.first ≡ Some left.first → AreNeighbours (is_about_at row.s rows) ends.first left.first × (left.first ≤ ends.last)
after_first rows next ends left row chain at differ is =
    let here : is_about_at row.s rows ends.first ≡ true = about-own rows ends.first row at in
    let high : IsLast (is_about_at row.s rows) ends.last = chain.last ends refl row.s here in
    let order : ends.first ≤ ends.last = (chain.within ends refl).0 in
    let found = next_of (is_about_at row.s rows) ends.first ends.last (omega arith) here high.passes in
    let near : AreNeighbours (is_about_at row.s rows) ends.first found.0 = found.1 in
    let same : found.0 ≡ left.first = some_nat found.0 left.first (sym (chain.on row.s ends.first found.0 near) ∙ is) in
    (subst (AreNeighbours (is_about_at row.s rows) ends.first) same near, subst (λ n. n ≤ ends.last) same found.2)

pub step_gives : (rows : List Triple) (next : List ℕ) (ends : Ends) (o : Option Ends) (row : Triple) → IsChain rows next (Some ends) → slice_get rows ends.first ≡ Some row
    → Steps next ends o → about_first (drop ends.first rows) ≡ row ∷ rows_left rows o
step_gives rows next ends o row chain at steps = ap about_first (drop-row rows ends.first row at) ∙ ap (λ l. row ∷ l) (rest o steps)
  where
    here : is_about_at row.s rows ends.first ≡ true
    here = about-own rows ends.first row at

    high : IsLast (is_about_at row.s rows) ends.last
    high = chain.last ends refl row.s here

    rest : (o : Option Ends) → Steps next ends o → filter (is_about row.s) (drop (suc ends.first) rows) ≡ rows_left rows o
    rest None same = filter-none row.s rows (suc ends.first) (λ k above. high.none_after k (omega arith))
    rest (Some left) steps =
        let after = after_first rows next ends left row chain at steps.0 steps.1 in
        let near : AreNeighbours (is_about_at row.s rows) ends.first left.first = after.0 in
        let order : ends.first < left.first = near.order in
        filter-skip row.s rows (suc ends.first) left.first (omega arith) (λ k above below. near.none_between k (omega arith) below)
        ∙ sym (about_first-drop row.s rows left.first near.passes_after)

pub step_keeps : (rows : List Triple) (next : List ℕ) (ends : Ends) (o : Option Ends) (row : Triple) → IsChain rows next (Some ends) → slice_get rows ends.first ≡ Some row
    → Steps next ends o → IsChain rows next o
step_keeps rows next ends None row chain at steps = record {
  as_long = chain.as_long;
  on = chain.on;
  within = λ e h. absurd (not_some e h);
  last = λ e h. absurd (not_some e h);
}
  where
    not_some : (e : Ends) → None ≡ Some e → ⊥
    not_some e h = cc
step_keeps rows next ends (Some left) row chain at steps =
    let after = after_first rows next ends left row chain at steps.0 steps.1 in
    let near : AreNeighbours (is_about_at row.s rows) ends.first left.first = after.0 in
    let here : is_about_at row.s rows ends.first ≡ true = about-own rows ends.first row at in
    let within : left.first ≤ ends.last = after.1 in
    let high : IsLast (is_about_at row.s rows) left.last = subst (IsLast (is_about_at row.s rows)) (sym steps.2) (chain.last ends refl row.s here) in
    record {
      as_long = chain.as_long;
      on = chain.on;
      within = λ e h.
          subst (λ e. (e.first ≤ e.last) × (e.last < length rows)) (some_same left e h)
          (subst (λ n. left.first ≤ n) (sym steps.2) within, subst (λ n. n < length rows) (sym steps.2) (chain.within ends refl).1);
      last = λ e h.
          subst (λ e. (q : Term) → is_about_at q rows e.first ≡ true → IsLast (is_about_at q rows) e.last) (some_same left e h)
          (λ q p. subst (λ s. IsLast (is_about_at s rows) left.last) (about-one row.s q rows left.first near.passes_after p) high);
    }

-- the first row of a chain
pub row_at : (rows : List Triple) (next : List ℕ) (ends : Ends) (row : Triple) → IsChain rows next (Some ends) → row ≡ get_or rows ends.first row → slice_get rows ends.first ≡ Some row
row_at rows next ends row chain is =
    let within = chain.within ends refl in
    slice_get_read rows (length rows) ends.first row refl (omega (arith, within.0, within.1)) is
