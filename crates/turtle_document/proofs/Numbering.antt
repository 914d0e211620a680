-- A reader's blank numbers: each that the document gave stands in a new row, or in a term that waits for its row.
use Rattle.std.proofs.Common.{◌≡◌, ◌⊎◌, inl, inr, ℕ, suc, ◌<◌, ◌≤◌, Bool, true, false, List, [], ◌∷◌, ◌++◌, length, Option, None, Some, Result, Ok, Err, if◌then◌else◌, codes, refl, ap, sym, subst, ◌∙◌, append_assoc, append-nil, arith}
use Rattle.std.specs.Prelude.{nat_lt, nat_le}
use Rattle.std.specs.Str.{bytes_eq}
use Rattle.std.proofs.lemmas.Bool.{ltb-true, ltb-false}
use Rattle.triple_store.specs.Triples.{blanks_of}
use Rattle.triple_store.specs.declared.fault.TheConstants.{MOST_ROWS}
use Rattle.triple_store.specs.declared.term.Term.{Term}
use Rattle.triple_store.specs.declared.term.Term.TheVariants as terms
use Rattle.triple_store.specs.declared.term.Triple.{Triple}
use Rattle.turtle_grammar.specs.declared.token.TokenKind.{TokenKind}
use Rattle.turtle_grammar.specs.declared.token.TokenKind.TheVariants as kinds
use Rattle.turtle_grammar.specs.Tree.{Leaf, Name, Quoting, Shorthand}
use Rattle.turtle_grammar.specs.Value.{tag_of}
use Rattle.turtle_document.specs.Below.{IsBelow, HoleBelow, HolesBelow, ChainBelow, NextBelow}
use Rattle.turtle_document.specs.Vocabulary.{rdf_first, rdf_rest, rdf_nil, rdf_lang_string, xsd_string, datatype_of}
use Rattle.turtle_document.specs.Meaning.{Fault, State, ◌>>=◌, most_open, may_open, numbered, labelled_as, add, is_row, name_of, absolute, bound, linked, ended, beginning}
use Rattle.turtle_document.specs.Machine.{Config, config, Move, on, filled, closed, as_name, as_quoting, as_shorthand, begin_node, begin_resource, begin_short, begin_by, begin_object, begins_object, started_by, started_name, begin_item, in_collection, last_of, first_of, collection_of, begin_verb, at_verb, at_end, after_object, after_semicolon, after_listed, listed, in_brackets, at_directive, at_statement, at_prefix, after_iri, at_namespace, at_base, at_dot, typed_by, plain_move, follows, onward, after_string, move_by, move}
use Rattle.turtle_document.specs.Machine.Move.{to, stuck, fails}
use Rattle.turtle_document.specs.declared.expected.Hole.{Hole}
use Rattle.turtle_document.specs.declared.expected.Hole.TheVariants as holes
use Rattle.turtle_document.specs.declared.expected.Chain.{Chain}
use Rattle.turtle_document.specs.declared.expected.Chain.TheVariants as chains
use Rattle.turtle_document.specs.declared.expected.Expected.{Expected}
use Rattle.turtle_document.specs.declared.expected.Expected.TheVariants as expect
use Rattle.turtle_document.proofs.Mentions.{Has, has_left, has_right, has_either, ends, ends_append, below_blanks, blanks_more, row_ends}

-- the terms of a hole whose numbers may stand in no row so far
abbrev pub waiting : Hole → List Term
waiting holes.Subject = []
waiting holes.ListedSubject = []
waiting (holes.Object s p) = s ∷ []
waiting (holes.Item first node) = terms.Blank node ∷ []

abbrev pub all_waiting : List Hole → List Term
all_waiting [] = []
all_waiting (hole ∷ outer) = waiting hole ++ all_waiting outer

abbrev pub next_waiting : Expected → List Term
next_waiting (expect.Verb s) = s ∷ []
next_waiting (expect.Object s p) = s ∷ []
next_waiting (expect.Property node) = terms.Blank node ∷ []
next_waiting (expect.Suffix text at hole) = waiting hole
next_waiting (expect.Datatype text hole) = waiting hole
next_waiting _ = []

-- those of a hole with the term that fills it
abbrev given : Hole → Term → List Term
given holes.Subject term = term ∷ []
given holes.ListedSubject term = []
given (holes.Object s p) term = s ∷ term ∷ []
given (holes.Item first node) term = terms.Blank node ∷ term ∷ []

-- a subject that its property list makes stands in a row already
abbrev IsUnlisted : Hole → Type 0
IsUnlisted holes.ListedSubject = ⊥
IsUnlisted _ = Unit {0}

abbrev IsTopUnlisted : List Hole → Type 0
IsTopUnlisted [] = Unit {0}
IsTopUnlisted (hole ∷ outer) = IsUnlisted hole

abbrev IsShaped : Expected → List Hole → Type 0
IsShaped (expect.Property node) outer = IsTopUnlisted outer
IsShaped _ outer = Unit {0}

-- Each number from those of the old rows on stands in a new row or in one of the terms, and all numbers lie below the next one.
pub record Fine (old : List Triple) (ts : List Term) (st : State) : Type 0 where
  pub new : List Triple
  pub rows : st.rows ≡ old ++ new
  pub under : blanks_of st.rows ≤ st.blanks
  pub labels : (name : List ℕ) (n : ℕ) → st.labels name ≡ Some n → n < st.blanks
  pub each : (n : ℕ) → blanks_of old ≤ n → n < st.blanks → Has (ends new) n ⊎ Has ts n

-- It is so where a reader stands.
pub record Numbered (old : List Triple) (next : Expected) (outer : List Hole) (st : State) : Type 0 where
  pub fine : Fine old (next_waiting next ++ all_waiting outer) st
  pub next_below : NextBelow st.blanks next
  pub outer_below : HolesBelow st.blanks outer
  pub few_open : length outer ≤ 256
  pub shaped : IsShaped next outer

abbrev pub LeadsOn : List Triple → Move → Type 0
LeadsOn old (to c st) = Numbered old c.next c.outer st
LeadsOn old stuck = Unit {0}
LeadsOn old (fails f) = Unit {0}

-- what an `Ok` has
abbrev Gains : {A : Type 0} → (A → Type 0) → Result A Fault → Type 0
Gains P (Ok x) = P x
Gains P (Err f) = Unit {0}

on_leads : {A : Type 0} (old : List Triple) (P : A → Type 0) (r : Result A Fault) (f : A → Move) → Gains P r → ((a : A) → P a → LeadsOn old (f a)) → LeadsOn old (on r f)
on_leads old P (Ok a) f g h = h a g
on_leads old P (Err fault) f g h = tt

any_leads : {A : Type 0} (old : List Triple) (r : Result A Fault) (f : A → Move) → ((a : A) → LeadsOn old (f a)) → LeadsOn old (on r f)
any_leads old (Ok a) f h = h a
any_leads old (Err fault) f h = tt

if_leads : (old : List Triple) (b : Bool) (m other : Move) → LeadsOn old m → LeadsOn old other → LeadsOn old (if b then m else other)
if_leads old true m other h k = h
if_leads old false m other h k = k

in_place : (new : List Triple) (ts us : List Term) (n : ℕ) → (Has ts n → Has us n) → Has (ends new) n ⊎ Has ts n → Has (ends new) n ⊎ Has us n
in_place new ts us n f (inl h) = inl h
in_place new ts us n f (inr h) = inr (f h)

fine_as : (old : List Triple) (ts us : List Term) (st : State) → ((n : ℕ) → Has ts n → Has us n) → Fine old ts st → Fine old us st
fine_as old ts us st f h = record { new = h.new; rows = h.rows; under = h.under; labels = h.labels; each = λ n a b. in_place h.new ts us n (f n) (h.each n a b) }

-- where the front of the terms is another
front_as : (ts us more : List Term) → ((n : ℕ) → Has ts n → Has us n) → (n : ℕ) → Has (ts ++ more) n → Has (us ++ more) n
front_as ts us more f n h = by (has_either ts more n h)
  where
    by : Has ts n ⊎ Has more n → Has (us ++ more) n
    by (inl x) = has_left us more n (f n x)
    by (inr x) = has_right us more n x

waits_in : (hole : Hole) (term : Term) (n : ℕ) → Has (waiting hole) n → Has (given hole term) n
waits_in holes.Subject term n h = absurd h
waits_in holes.ListedSubject term n h = absurd h
waits_in (holes.Object s p) term n (inl e) = inl e
waits_in (holes.Object s p) term n (inr h) = absurd h
waits_in (holes.Item first node) term n (inl e) = inl e
waits_in (holes.Item first node) term n (inr h) = absurd h

gives_in : (hole : Hole) (term : Term) → IsUnlisted hole → (n : ℕ) → Has (term ∷ waiting hole) n → Has (given hole term) n
gives_in holes.Subject term u n h = h
gives_in holes.ListedSubject term u n h = absurd u
gives_in (holes.Object s p) term u n (inl e) = inr (inl e)
gives_in (holes.Object s p) term u n (inr (inl e)) = inl e
gives_in (holes.Object s p) term u n (inr (inr h)) = absurd h
gives_in (holes.Item first node) term u n (inl e) = inr (inl e)
gives_in (holes.Item first node) term u n (inr (inl e)) = inl e
gives_in (holes.Item first node) term u n (inr (inr h)) = absurd h

-- a row that was there is an old one or a new one
among_new : (old new rows : List Triple) (n : ℕ) → rows ≡ old ++ new → blanks_of old ≤ n → Has (ends rows) n → Has (ends new) n
among_new old new rows n e above h =
    let P : List Triple → Type 0 = λ r. Has (ends r) n in
    let Q : List Term → Type 0 = λ ts. Has ts n in
    by (has_either (ends old) (ends new) n (subst Q (ends_append old new) (subst P e h)))
  where
    by : Has (ends old) n ⊎ Has (ends new) n → Has (ends new) n
    by (inl x) = let small = below_blanks old n x in absurd (omega (arith, small))
    by (inr x) = x

-- a new row has its subject and its object
row_added : (s p o : Term) (new : List Triple) (n : ℕ) → (s ≡ terms.Blank n) ⊎ (o ≡ terms.Blank n) → Has (ends (new ++ record { s = s; p = p; o = o } ∷ [])) n
row_added s p o new n x =
    let Q : List Term → Type 0 = λ ts. Has ts n in
    subst Q (sym (ends_append new (record { s = s; p = p; o = o } ∷ []))) (has_right (ends new) (s ∷ o ∷ []) n (by x))
  where
    by : (s ≡ terms.Blank n) ⊎ (o ≡ terms.Blank n) → Has (s ∷ o ∷ []) n
    by (inl e) = inl e
    by (inr e) = inr (inl e)

row_kept : (t : Triple) (new : List Triple) (n : ℕ) → Has (ends new) n → Has (ends (new ++ t ∷ [])) n
row_kept t new n h = let Q : List Term → Type 0 = λ ts. Has ts n in subst Q (sym (ends_append new (t ∷ []))) (has_left (ends new) (ends (t ∷ [])) n h)

-- what waits is in the row, or waits still
abbrev Settles : Term → Term → List Term → List Term → Type 0
Settles s o ts us = (n : ℕ) → Has ts n → ((s ≡ terms.Blank n) ⊎ (o ≡ terms.Blank n)) ⊎ Has us n

abbrev IsAdded : List Triple → List Term → State → State → Type 0
IsAdded old us st after = Fine old us after × (after.blanks ≡ st.blanks)

add_by : (old : List Triple) (ts us : List Term) (at : ℕ) (s p o : Term) (st : State) (is_there is_full : Bool) → is_row s p o st.rows ≡ is_there
    → Fine old ts st → IsBelow st.blanks s → IsBelow st.blanks p → IsBelow st.blanks o → Settles s o ts us
    → Gains (IsAdded old us st) (
    if is_there then Ok st else if is_full then Err (Fault.full_store at) else Ok (record st { rows = st.rows ++ record { s = s; p = p; o = o } ∷ [] }))
add_by old ts us at s p o st true is_full e f bs bp bo settles =
    (record { new = f.new; rows = f.rows; under = f.under; labels = f.labels; each = λ n a b. by n a (f.each n a b) }, refl)
  where
    which : (n : ℕ) → blanks_of old ≤ n → ((s ≡ terms.Blank n) ⊎ (o ≡ terms.Blank n)) ⊎ Has us n → Has (ends f.new) n ⊎ Has us n
    which n a (inl x) = inl (among_new old f.new st.rows n f.rows a (row_ends s p o st.rows n e x))
    which n a (inr x) = inr x

    by : (n : ℕ) → blanks_of old ≤ n → Has (ends f.new) n ⊎ Has ts n → Has (ends f.new) n ⊎ Has us n
    by n a (inl h) = inl h
    by n a (inr h) = which n a (settles n h)
add_by old ts us at s p o st false true e f bs bp bo settles = tt
add_by old ts us at s p o st false false e f bs bp bo settles = (
  record {
    new = f.new ++ record { s = s; p = p; o = o } ∷ [];
    rows = ap (λ rows. rows ++ record { s = s; p = p; o = o } ∷ []) f.rows ∙ append_assoc old f.new (record { s = s; p = p; o = o } ∷ []);
    under = blanks_more st.rows (record { s = s; p = p; o = o }) st.blanks f.under (omega (arith, bs, bp, bo));
    labels = f.labels;
    each = λ n a b. by n (f.each n a b);
  },
  refl,
)
  where
    which : (n : ℕ) → ((s ≡ terms.Blank n) ⊎ (o ≡ terms.Blank n)) ⊎ Has us n → Has (ends (f.new ++ record { s = s; p = p; o = o } ∷ [])) n ⊎ Has us n
    which n (inl x) = inl (row_added s p o f.new n x)
    which n (inr x) = inr x

    by : (n : ℕ) → Has (ends f.new) n ⊎ Has ts n → Has (ends (f.new ++ record { s = s; p = p; o = o } ∷ [])) n ⊎ Has us n
    by n (inl h) = inl (row_kept (record { s = s; p = p; o = o }) f.new n h)
    by n (inr h) = which n (settles n h)

add_fine : (old : List Triple) (ts us : List Term) (at : ℕ) (s p o : Term) (st : State)
    → Fine old ts st → IsBelow st.blanks s → IsBelow st.blanks p → IsBelow st.blanks o → Settles s o ts us
    → Gains (IsAdded old us st) (add at s p o st)
add_fine old ts us at s p o st f bs bp bo settles = add_by old ts us at s p o st (is_row s p o st.rows) (nat_le MOST_ROWS (length st.rows)) refl f bs bp bo settles

-- a term fills a hole
filled_leads : (old : List Triple) (hole : Hole) (at : ℕ) (term : Term) (outer : List Hole) (st : State) → Fine old (given hole term ++ all_waiting outer) st
    → IsBelow st.blanks term → HoleBelow st.blanks hole → HolesBelow st.blanks outer → length outer ≤ 256 → LeadsOn old (filled hole at term outer st)
filled_leads old holes.Subject at term outer st f bt bh bo few = record { fine = f; next_below = bt; outer_below = bo; few_open = few; shaped = tt }
filled_leads old holes.ListedSubject at term outer st f bt bh bo few = record { fine = f; next_below = bt; outer_below = bo; few_open = few; shaped = tt }
filled_leads old (holes.Object s p) at term outer st f bt bh bo few =
    on_leads old (IsAdded old (all_waiting outer) st) (add at s p term st) (to (config (expect.AfterObject s p) outer))
    (add_fine old (s ∷ term ∷ all_waiting outer) (all_waiting outer) at s p term st f bh.0 bh.1 bt settles)
    (λ after x.
    let P : ℕ → Type 0 = λ b. HolesBelow b outer in
    let Q : ℕ → Type 0 = λ b. IsBelow b s × IsBelow b p in
    record { fine = x.0; next_below = subst Q (sym x.1) bh; outer_below = subst P (sym x.1) bo; few_open = few; shaped = tt })
  where
    settles : Settles s term (s ∷ term ∷ all_waiting outer) (all_waiting outer)
    settles n (inl e) = inl (inl e)
    settles n (inr (inl e)) = inl (inr e)
    settles n (inr (inr h)) = inr h
filled_leads old (holes.Item first node) at term outer st f bt bh bo few =
    on_leads old (IsAdded old (all_waiting outer) st) (add at (terms.Blank node) (terms.Iri rdf_first) term st) (to (config (expect.Item (chains.Nodes first node)) outer))
    (add_fine old (terms.Blank node ∷ term ∷ all_waiting outer) (all_waiting outer) at (terms.Blank node) (terms.Iri rdf_first) term st f (omega (arith, bh.1)) (omega arith) bt settles)
    (λ after x.
    let P : ℕ → Type 0 = λ b. HolesBelow b outer in
    let Q : ℕ → Type 0 = λ b. (first < b) × (node < b) in
    record { fine = x.0; next_below = subst Q (sym x.1) bh; outer_below = subst P (sym x.1) bo; few_open = few; shaped = tt })
  where
    settles : Settles (terms.Blank node) term (terms.Blank node ∷ term ∷ all_waiting outer) (all_waiting outer)
    settles n (inl e) = inl (inl e)
    settles n (inr (inl e)) = inl (inr e)
    settles n (inr (inr h)) = inr h

-- what a token meets that begins a term for a hole
record Begins (old : List Triple) (hole : Hole) (outer : List Hole) (st : State) : Type 0 where
  fine : Fine old (waiting hole ++ all_waiting outer) st
  hole_below : HoleBelow st.blanks hole
  outer_below : HolesBelow st.blanks outer
  few_open : length outer ≤ 256

-- a term whose number, if it has one, is no new one
plain_leads : (old : List Triple) (hole : Hole) (at : ℕ) (term : Term) (outer : List Hole) (st : State) → Begins old hole outer st → IsBelow st.blanks term
    → LeadsOn old (filled hole at term outer st)
plain_leads old hole at term outer st b below =
    filled_leads old hole at term outer st
    (fine_as old (waiting hole ++ all_waiting outer) (given hole term ++ all_waiting outer) st (front_as (waiting hole) (given hole term) (all_waiting outer) (waits_in hole term)) b.fine)
    below b.hole_below b.outer_below b.few_open

-- a term with a new number
new_leads : (old : List Triple) (hole : Hole) (at : ℕ) (term : Term) (outer : List Hole) (st : State) → IsUnlisted hole → Fine old (term ∷ (waiting hole ++ all_waiting outer)) st
    → IsBelow st.blanks term → HoleBelow st.blanks hole → HolesBelow st.blanks outer → length outer ≤ 256 → LeadsOn old (filled hole at term outer st)
new_leads old hole at term outer st u f bt bh bo few =
    filled_leads old hole at term outer st
    (fine_as old (term ∷ (waiting hole ++ all_waiting outer)) (given hole term ++ all_waiting outer) st (front_as (term ∷ waiting hole) (given hole term) (all_waiting outer) (gives_in hole term u)) f)
    bt bh bo few

-- a hole of brackets
hole_ends : (old : List Triple) (hole : Hole) (outer : List Hole) (st : State) → Fine old (all_waiting (hole ∷ outer)) st → HolesBelow st.blanks (hole ∷ outer)
    → length (hole ∷ outer) ≤ 256 → Begins old hole outer st
hole_ends old hole outer st f b few = record { fine = f; hole_below = b.0; outer_below = b.1; few_open = omega (arith, few) }

closed_leads : (old : List Triple) (at : ℕ) (term : Term) (outer : List Hole) (st : State) → Fine old (all_waiting outer) st → HolesBelow st.blanks outer
    → length outer ≤ 256 → IsBelow st.blanks term → LeadsOn old (closed at term outer st)
closed_leads old at term [] st f b few below = tt
closed_leads old at term (hole ∷ outer) st f b few below = plain_leads old hole at term outer st (hole_ends old hole outer st f b few) below

-- one more number
below_more : (b : ℕ) (term : Term) → IsBelow b term → IsBelow (suc b) term
below_more b term h = omega (arith, h)

hole_more : (b : ℕ) (hole : Hole) → HoleBelow b hole → HoleBelow (suc b) hole
hole_more b holes.Subject h = tt
hole_more b holes.ListedSubject h = tt
hole_more b (holes.Object s p) h = (below_more b s h.0, below_more b p h.1)
hole_more b (holes.Item first node) h = (omega (arith, h.0), omega (arith, h.1))

holes_more : (b : ℕ) (outer : List Hole) → HolesBelow b outer → HolesBelow (suc b) outer
holes_more b [] h = tt
holes_more b (hole ∷ outer) h = (hole_more b hole h.0, holes_more b outer h.1)

one_new : (old : List Triple) (ts : List Term) (st : State) → (n : ℕ) → blanks_of old ≤ n → n < suc st.blanks → (f : Fine old ts st)
    → Has (ends f.new) n ⊎ Has (terms.Blank st.blanks ∷ ts) n
one_new old ts st n above below f = by (nat_lt n st.blanks) refl
  where
    old_one : Has (ends f.new) n ⊎ Has ts n → Has (ends f.new) n ⊎ Has (terms.Blank st.blanks ∷ ts) n
    old_one (inl h) = inl h
    old_one (inr h) = inr (inr h)

    by : (small : Bool) → nat_lt n st.blanks ≡ small → Has (ends f.new) n ⊎ Has (terms.Blank st.blanks ∷ ts) n
    by true e = old_one (f.each n above (ltb-true n st.blanks e))
    by false e = inr (inl (ap terms.Blank (omega (arith, ltb-false n st.blanks e))))

numbered_fine : (old : List Triple) (ts : List Term) (st : State) → Fine old ts st → Fine old (terms.Blank st.blanks ∷ ts) (numbered st)
numbered_fine old ts st f = record {
  new = f.new;
  rows = f.rows;
  under = omega (arith, f.under);
  labels = λ name n e. let h = f.labels name n e in omega (arith, h);
  each = λ n a b. one_new old ts st n a b f;
}

-- a label has a number below the next one, its own or an older one
label_below : (name other : List ℕ) (st : State) (n : ℕ) → ((name : List ℕ) (n : ℕ) → st.labels name ≡ Some n → n < st.blanks)
    → bound name st.blanks st.labels other ≡ Some n → n < suc st.blanks
label_below name other st n labels e = by (bytes_eq name other) e
  where
    by : (b : Bool) → (if b then Some st.blanks else st.labels other) ≡ Some n → n < suc st.blanks
    by true e = let same : st.blanks ≡ n = cc in omega (arith, same)
    by false e = let h = labels other n e in omega (arith, h)

labelled_leads : (old : List Triple) (number : Option ℕ) (name : List ℕ) (hole : Hole) (at : ℕ) (outer : List Hole) (st : State) → IsUnlisted hole → Begins old hole outer st
    → st.labels name ≡ number → LeadsOn old (filled hole at (labelled_as number name st).term outer (labelled_as number name st).state)
labelled_leads old (Some number) name hole at outer st u b e =
    let h = b.fine.labels name number e in plain_leads old hole at (terms.Blank number) outer st b (omega (arith, h))
labelled_leads old None name hole at outer st u b e =
    let f = b.fine in
    new_leads old hole at (terms.Blank st.blanks) outer (labelled_as None name st).state u
    (record {
      new = f.new;
      rows = f.rows;
      under = omega (arith, f.under);
      labels = λ other n same. label_below name other st n f.labels same;
      each = λ n above below. one_new old (waiting hole ++ all_waiting outer) st n above below f;
    })
    (omega arith) (hole_more st.blanks hole b.hole_below) (holes_more st.blanks outer b.outer_below) b.few_open

open_by : (P : State → Type 0) (n at : ℕ) (st : State) (may : Bool) → nat_lt n most_open ≡ may → P st → Gains (λ here. P here × (n < 256)) (if may then Ok st else Err (Fault.too_deep at))
open_by P n at st true e h = (h, ltb-true n most_open e)
open_by P n at st false e h = tt

open_keeps : (P : State → Type 0) (at n : ℕ) (st : State) → P st → Gains (λ here. P here × (n < 256)) (may_open at n st)
open_keeps P at n st h = open_by P n at st (nat_lt n most_open) refl h

node_leads : (old : List Triple) (kind : TokenKind) (hole : Hole) (leaf : Leaf) (outer : List Hole) (st : State) → IsUnlisted hole → Begins old hole outer st
    → LeadsOn old (begin_node kind hole leaf outer st)
node_leads old kinds.BlankLabel hole leaf outer st u b = labelled_leads old (st.labels leaf.text) leaf.text hole leaf.at outer st u b refl
node_leads old kinds.OpenSquare hole leaf outer st u b =
    on_leads old (λ here. Begins old hole outer here × (length outer < 256)) (may_open leaf.at (length outer) st) (λ here. to (config (expect.Property here.blanks) (hole ∷ outer)) (numbered here))
    (open_keeps (Begins old hole outer) leaf.at (length outer) st b)
    (λ here x. record {
      fine = numbered_fine old (waiting hole ++ all_waiting outer) here x.0.fine;
      next_below = omega arith;
      outer_below = (hole_more here.blanks hole x.0.hole_below, holes_more here.blanks outer x.0.outer_below);
      few_open = omega (arith, x.1);
      shaped = u;
    })
node_leads old kinds.OpenRound hole leaf outer st u b =
    on_leads old (λ here. Begins old hole outer here × (length outer < 256)) (may_open leaf.at (length outer) st) (to (config (expect.Item chains.Empty) (hole ∷ outer)))
    (open_keeps (Begins old hole outer) leaf.at (length outer) st b)
    (λ here x. record { fine = x.0.fine; next_below = tt; outer_below = (x.0.hole_below, x.0.outer_below); few_open = omega (arith, x.1); shaped = tt })
node_leads old kind hole leaf outer st u b = tt

resource_leads : (old : List Triple) (name : Option Name) (kind : TokenKind) (hole : Hole) (leaf : Leaf) (outer : List Hole) (st : State) → IsUnlisted hole → Begins old hole outer st
    → LeadsOn old (begin_resource name kind hole leaf outer st)
resource_leads old (Some name) kind hole leaf outer st u b =
    any_leads old (name_of name st) (λ iri. filled hole leaf.at (terms.Iri iri) outer st) (λ iri. plain_leads old hole leaf.at (terms.Iri iri) outer st b (omega arith))
resource_leads old None kind hole leaf outer st u b = node_leads old kind hole leaf outer st u b

short_leads : (old : List Triple) (shorthand : Option Shorthand) (kind : TokenKind) (hole : Hole) (leaf : Leaf) (outer : List Hole) (st : State) → IsUnlisted hole
    → Begins old hole outer st → LeadsOn old (begin_short shorthand kind hole leaf outer st)
short_leads old (Some shorthand) kind hole leaf outer st u b = plain_leads old hole leaf.at (terms.Literal leaf.text (datatype_of shorthand) []) outer st b (omega arith)
short_leads old None kind hole leaf outer st u b = resource_leads old (as_name kind leaf) kind hole leaf outer st u b

begin_leads : (old : List Triple) (quoting : Option Quoting) (kind : TokenKind) (hole : Hole) (leaf : Leaf) (outer : List Hole) (st : State) → IsUnlisted hole
    → Begins old hole outer st → LeadsOn old (begin_by quoting kind hole leaf outer st)
begin_leads old (Some quoting) kind hole leaf outer st u b = record { fine = b.fine; next_below = b.hole_below; outer_below = b.outer_below; few_open = b.few_open; shaped = tt }
begin_leads old None kind hole leaf outer st u b = short_leads old (as_shorthand kind) kind hole leaf outer st u b

-- what a collection's token meets
record Goes (old : List Triple) (ts : List Term) (outer : List Hole) (st : State) : Type 0 where
  fine : Fine old (ts ++ all_waiting outer) st
  outer_below : HolesBelow st.blanks outer
  few_open : length outer ≤ 256

name_keeps : (P : State → Type 0) (name : Option Name) (st : State) → P st → Gains P (started_name name st)
name_keeps P None st h = h
name_keeps P (Some name) st h = by (name_of name st)
  where
    by : (r : Result (List ℕ) Fault) → Gains P (r >>= (λ iri. Ok st))
    by (Ok iri) = h
    by (Err fault) = tt

first_of_open : (P : State → Type 0) (n : ℕ) (r : Result State Fault) → Gains (λ here. P here × (n < 256)) r → Gains P r
first_of_open P n (Ok st) h = h.0
first_of_open P n (Err fault) h = tt

started_keeps : (P : State → Type 0) (kind : TokenKind) (leaf : Leaf) (n : ℕ) (st : State) → P st → Gains P (started_by kind leaf n st)
started_keeps P kinds.OpenSquare leaf n st h = first_of_open P n (may_open leaf.at n st) (open_keeps P leaf.at n st h)
started_keeps P kinds.OpenRound leaf n st h = first_of_open P n (may_open leaf.at n st) (open_keeps P leaf.at n st h)
started_keeps P kind leaf n st h = name_keeps P (as_name kind leaf) st h

linked_fine : (old : List Triple) (ts : List Term) (chain : Chain) (at node : ℕ) (st : State) → Fine old ts st → ChainBelow st.blanks chain → node < st.blanks
    → Gains (IsAdded old ts st) (linked (last_of chain) at node st)
linked_fine old ts chains.Empty at node st f b below = (f, refl)
linked_fine old ts (chains.Nodes first last) at node st f b below =
    add_fine old ts ts at (terms.Blank last) (terms.Iri rdf_rest) (terms.Blank node) st f (omega (arith, b.1)) (omega arith) (omega (arith, below)) (λ n h. inr h)

ended_fine : (old : List Triple) (ts : List Term) (chain : Chain) (at : ℕ) (st : State) → Fine old ts st → ChainBelow st.blanks chain
    → Gains (IsAdded old ts st) (ended (last_of chain) at st)
ended_fine old ts chains.Empty at st f b = (f, refl)
ended_fine old ts (chains.Nodes first last) at st f b =
    add_fine old ts ts at (terms.Blank last) (terms.Iri rdf_rest) (terms.Iri rdf_nil) st f (omega (arith, b.1)) (omega arith) (omega arith) (λ n h. inr h)

chain_more : (b : ℕ) (chain : Chain) → ChainBelow b chain → ChainBelow (suc b) chain
chain_more b chains.Empty h = tt
chain_more b (chains.Nodes first last) h = (omega (arith, h.0), omega (arith, h.1))

first_below : (chain : Chain) (node : ℕ) → ChainBelow node chain → first_of chain node < suc node
first_below chains.Empty node h = omega arith
first_below (chains.Nodes first last) node h = omega (arith, h.0)

item_leads : (old : List Triple) (kind : TokenKind) (leaf : Leaf) (chain : Chain) (outer : List Hole) (st : State) → Goes old [] outer st → ChainBelow st.blanks chain
    → LeadsOn old (begin_item kind leaf chain outer st)
item_leads old kind leaf chain outer st g b =
    on_leads old (λ here. Goes old [] outer here × ChainBelow here.blanks chain) (started_by kind leaf (length outer) st)
    (λ here. on (linked (last_of chain) leaf.at here.blanks (numbered here)) (λ inside. begin_object kind (holes.Item (first_of chain here.blanks) here.blanks) leaf outer inside))
    (started_keeps (λ here. Goes old [] outer here × ChainBelow here.blanks chain) kind leaf (length outer) st (g, b))
    (λ here x. on_leads old (IsAdded old (terms.Blank here.blanks ∷ all_waiting outer) (numbered here)) (linked (last_of chain) leaf.at here.blanks (numbered here))
    (λ inside. begin_object kind (holes.Item (first_of chain here.blanks) here.blanks) leaf outer inside)
    (linked_fine old (terms.Blank here.blanks ∷ all_waiting outer) chain leaf.at here.blanks (numbered here) (numbered_fine old (all_waiting outer) here x.0.fine) (chain_more here.blanks chain x.1) (omega arith))
    (λ inside y.
    let P : ℕ → Type 0 = λ m. HolesBelow m outer in
    let Q : ℕ → Type 0 = λ m. (first_of chain here.blanks < m) × (here.blanks < m) in
    begin_leads old (as_quoting kind) kind (holes.Item (first_of chain here.blanks) here.blanks) leaf outer inside tt (record {
      fine = y.0;
      hole_below = subst Q (sym y.1) (first_below chain here.blanks x.1, omega arith);
      outer_below = subst P (sym y.1) (holes_more here.blanks outer x.0.outer_below);
      few_open = x.0.few_open;
    })))

collection_below : (b : ℕ) (chain : Chain) → ChainBelow b chain → IsBelow b (collection_of chain)
collection_below b chains.Empty h = omega arith
collection_below b (chains.Nodes first last) h = omega (arith, h.0)

collection_leads : (old : List Triple) (kind : TokenKind) (leaf : Leaf) (chain : Chain) (outer : List Hole) (st : State) → Goes old [] outer st → ChainBelow st.blanks chain
    → LeadsOn old (in_collection kind leaf chain outer st)
collection_leads old kinds.CloseRound leaf chain outer st g b =
    on_leads old (IsAdded old (all_waiting outer) st) (ended (last_of chain) leaf.at st) (closed leaf.at (collection_of chain) outer)
    (ended_fine old (all_waiting outer) chain leaf.at st g.fine b)
    (λ after x.
    let P : ℕ → Type 0 = λ m. HolesBelow m outer in
    let Q : ℕ → Type 0 = λ m. IsBelow m (collection_of chain) in
    closed_leads old leaf.at (collection_of chain) outer after x.0 (subst P (sym x.1) g.outer_below) g.few_open (subst Q (sym x.1) (collection_below st.blanks chain b)))
collection_leads old kind leaf chain outer st g b = if_leads old (begins_object kind) (begin_item kind leaf chain outer st) stuck (item_leads old kind leaf chain outer st g b) tt

begin_verb_leads : (old : List Triple) (name : Option Name) (kind : TokenKind) (s : Term) (outer : List Hole) (st : State) → Goes old (s ∷ []) outer st → IsBelow st.blanks s
    → LeadsOn old (begin_verb name kind s outer st)
begin_verb_leads old (Some name) kind s outer st g b =
    any_leads old (name_of name st) (λ iri. to (config (expect.Object s (terms.Iri iri)) outer) st)
    (λ iri. record { fine = g.fine; next_below = (b, omega arith); outer_below = g.outer_below; few_open = g.few_open; shaped = tt })
begin_verb_leads old None kinds.A s outer st g b = record { fine = g.fine; next_below = (b, omega arith); outer_below = g.outer_below; few_open = g.few_open; shaped = tt }
begin_verb_leads old None kind s outer st g b = tt

verb_leads : (old : List Triple) (kind : TokenKind) (leaf : Leaf) (s : Term) (outer : List Hole) (st : State) → Goes old (s ∷ []) outer st → IsBelow st.blanks s
    → LeadsOn old (at_verb kind leaf s outer st)
verb_leads old kind leaf s outer st g b = begin_verb_leads old (as_name kind leaf) kind s outer st g b

-- the subject waits again
waits_again : (old : List Triple) (s : Term) (outer : List Hole) (st : State) → Goes old [] outer st → Goes old (s ∷ []) outer st
waits_again old s outer st g =
    record { fine = fine_as old (all_waiting outer) (s ∷ all_waiting outer) st (λ n h. inr h) g.fine; outer_below = g.outer_below; few_open = g.few_open }

end_leads : (old : List Triple) (kind : TokenKind) (leaf : Leaf) (s : Term) (outer : List Hole) (st : State) → Goes old [] outer st → IsBelow st.blanks s
    → LeadsOn old (at_end kind leaf s outer st)
end_leads old kinds.Dot leaf s [] st g b = record { fine = g.fine; next_below = tt; outer_below = tt; few_open = g.few_open; shaped = tt }
end_leads old kinds.CloseSquare leaf s (hole ∷ outer) st g b = plain_leads old hole leaf.at s outer st (hole_ends old hole outer st g.fine g.outer_below g.few_open) b
end_leads old kind leaf s outer st g b = tt

object_end_leads : (old : List Triple) (kind : TokenKind) (leaf : Leaf) (s p : Term) (outer : List Hole) (st : State) → Goes old [] outer st → IsBelow st.blanks s → IsBelow st.blanks p
    → LeadsOn old (after_object kind leaf s p outer st)
object_end_leads old kinds.Comma leaf s p outer st g bs bp =
    let w = waits_again old s outer st g in record { fine = w.fine; next_below = (bs, bp); outer_below = g.outer_below; few_open = g.few_open; shaped = tt }
object_end_leads old kinds.Semicolon leaf s p outer st g bs bp = record { fine = g.fine; next_below = bs; outer_below = g.outer_below; few_open = g.few_open; shaped = tt }
object_end_leads old kind leaf s p outer st g bs bp = end_leads old kind leaf s outer st g bs

semicolon_leads : (old : List Triple) (kind : TokenKind) (leaf : Leaf) (s : Term) (outer : List Hole) (st : State) → Goes old [] outer st → IsBelow st.blanks s
    → LeadsOn old (after_semicolon kind leaf s outer st)
semicolon_leads old kinds.Semicolon leaf s outer st g b = record { fine = g.fine; next_below = b; outer_below = g.outer_below; few_open = g.few_open; shaped = tt }
semicolon_leads old kinds.Dot leaf s outer st g b = end_leads old kinds.Dot leaf s outer st g b
semicolon_leads old kinds.CloseSquare leaf s outer st g b = end_leads old kinds.CloseSquare leaf s outer st g b
semicolon_leads old kind leaf s outer st g b = verb_leads old kind leaf s outer st (waits_again old s outer st g) b

after_listed_leads : (old : List Triple) (kind : TokenKind) (leaf : Leaf) (s : Term) (outer : List Hole) (st : State) → Goes old [] outer st → IsBelow st.blanks s
    → LeadsOn old (after_listed kind leaf s outer st)
after_listed_leads old kinds.Dot leaf s outer st g b = end_leads old kinds.Dot leaf s outer st g b
after_listed_leads old kinds.CloseSquare leaf s outer st g b = end_leads old kinds.CloseSquare leaf s outer st g b
after_listed_leads old kind leaf s outer st g b = verb_leads old kind leaf s outer st (waits_again old s outer st g) b

listed_goes : (old : List Triple) (ts : List Term) (outer : List Hole) (st : State) → Goes old ts outer st → Goes old ts (listed outer) st
listed_goes old ts [] st g = g
listed_goes old ts (holes.Subject ∷ outer) st g = record { fine = g.fine; outer_below = g.outer_below; few_open = g.few_open }
listed_goes old ts (holes.ListedSubject ∷ outer) st g = g
listed_goes old ts (holes.Object s p ∷ outer) st g = g
listed_goes old ts (holes.Item first node ∷ outer) st g = g

node_closes : (old : List Triple) (at node : ℕ) (outer : List Hole) (st : State) → Goes old (terms.Blank node ∷ []) outer st → node < st.blanks → IsTopUnlisted outer
    → LeadsOn old (closed at (terms.Blank node) outer st)
node_closes old at node [] st g b u = tt
node_closes old at node (hole ∷ outer) st g b u =
    new_leads old hole at (terms.Blank node) outer st u g.fine (omega (arith, b)) g.outer_below.0 g.outer_below.1 (omega (arith, g.few_open))

brackets_lead : (old : List Triple) (kind : TokenKind) (leaf : Leaf) (node : ℕ) (outer : List Hole) (st : State) → Goes old (terms.Blank node ∷ []) outer st → node < st.blanks
    → IsTopUnlisted outer → LeadsOn old (in_brackets kind leaf node outer st)
brackets_lead old kinds.CloseSquare leaf node outer st g b u = node_closes old leaf.at node outer st g b u
brackets_lead old kind leaf node outer st g b u = verb_leads old kind leaf (terms.Blank node) (listed outer) st (listed_goes old (terms.Blank node ∷ []) outer st g) (omega (arith, b))

-- where nothing waits next
rests : (old : List Triple) (next : Expected) (outer : List Hole) (st : State) → next_waiting next ≡ [] → NextBelow st.blanks next → IsShaped next outer → Goes old [] outer st
    → Numbered old next outer st
rests old next outer st e b s g =
    let P : List Term → Type 0 = λ ts. Fine old (ts ++ all_waiting outer) st in
    record { fine = subst P (sym e) g.fine; next_below = b; outer_below = g.outer_below; few_open = g.few_open; shaped = s }

directive_leads : (old : List Triple) (text : List ℕ) (outer : List Hole) (st : State) → Goes old [] outer st → LeadsOn old (at_directive text outer st)
directive_leads old text outer st g =
    if_leads old (bytes_eq text (codes "@prefix")) (to (config (expect.Prefix true) outer) st) (if bytes_eq text (codes "@base") then to (config (expect.Base true) outer) st else stuck)
    (rests old (expect.Prefix true) outer st refl tt tt g)
    (if_leads old (bytes_eq text (codes "@base")) (to (config (expect.Base true) outer) st) stuck (rests old (expect.Base true) outer st refl tt tt g) tt)

statement_leads : (old : List Triple) (kind : TokenKind) (leaf : Leaf) (outer : List Hole) (st : State) → Goes old [] outer st → LeadsOn old (at_statement kind leaf outer st)
statement_leads old kinds.LanguageTag leaf outer st g = directive_leads old leaf.text outer st g
statement_leads old kinds.Prefix leaf outer st g = rests old (expect.Prefix false) outer st refl tt tt g
statement_leads old kinds.Base leaf outer st g = rests old (expect.Base false) outer st refl tt tt g
statement_leads old kind leaf outer st g =
    resource_leads old (as_name kind leaf) kind holes.Subject leaf outer st tt (record { fine = g.fine; hole_below = tt; outer_below = g.outer_below; few_open = g.few_open })

prefix_leads : (old : List Triple) (kind : TokenKind) (leaf : Leaf) (dot : Bool) (outer : List Hole) (st : State) → Goes old [] outer st → LeadsOn old (at_prefix kind leaf dot outer st)
prefix_leads old kinds.Namespace leaf dot outer st g = record { fine = g.fine; next_below = tt; outer_below = g.outer_below; few_open = g.few_open; shaped = tt }
prefix_leads old kind leaf dot outer st g = tt

after_iri_leads : (old : List Triple) (dot : Bool) (outer : List Hole) (st : State) → Goes old [] outer st → Numbered old (after_iri dot) outer st
after_iri_leads old true outer st g = rests old expect.DirectiveDot outer st refl tt tt g
after_iri_leads old false outer st g = rests old expect.Statement outer st refl tt tt g

-- another base or another prefix
elsewhere : (old : List Triple) (outer : List Hole) (st after : State) → after.rows ≡ st.rows → after.labels ≡ st.labels → after.blanks ≡ st.blanks → Goes old [] outer st
    → Goes old [] outer after
elsewhere old outer st after rows labels blanks g =
    let f = g.fine in
    let P : ℕ → Type 0 = λ m. HolesBelow m outer in
    let Q : List Triple → Type 0 = λ r. blanks_of r ≤ st.blanks in
    let R : (List ℕ → Option ℕ) → Type 0 = λ known. (name : List ℕ) (n : ℕ) → known name ≡ Some n → n < st.blanks in
    let under = subst Q (sym rows) f.under in
    let known = subst R (sym labels) f.labels in
    record {
      fine = record {
        new = f.new;
        rows = rows ∙ f.rows;
        under = omega (arith, under, blanks);
        labels = λ name n e. let h = known name n e in omega (arith, h, blanks);
        each = λ n a b. f.each n a (omega (arith, b, blanks));
      };
      outer_below = subst P (sym blanks) g.outer_below;
      few_open = g.few_open;
    }

namespace_leads : (old : List Triple) (kind : TokenKind) (leaf : Leaf) (dot : Bool) (prefix : List ℕ) (outer : List Hole) (st : State) → Goes old [] outer st
    → LeadsOn old (at_namespace kind leaf dot prefix outer st)
namespace_leads old kinds.Iri leaf dot prefix outer st g =
    any_leads old (absolute st.base leaf) (λ value. to (config (after_iri dot) outer) (record st { prefixes = bound prefix value st.prefixes }))
    (λ value. after_iri_leads old dot outer (record st { prefixes = bound prefix value st.prefixes }) (elsewhere old outer st (record st { prefixes = bound prefix value st.prefixes }) refl refl refl g))
namespace_leads old kind leaf dot prefix outer st g = tt

base_leads : (old : List Triple) (kind : TokenKind) (leaf : Leaf) (dot : Bool) (outer : List Hole) (st : State) → Goes old [] outer st → LeadsOn old (at_base kind leaf dot outer st)
base_leads old kinds.Iri leaf dot outer st g =
    any_leads old (absolute st.base leaf) (λ value. to (config (after_iri dot) outer) (record st { base = value }))
    (λ value. after_iri_leads old dot outer (record st { base = value }) (elsewhere old outer st (record st { base = value }) refl refl refl g))
base_leads old kind leaf dot outer st g = tt

dot_leads : (old : List Triple) (kind : TokenKind) (outer : List Hole) (st : State) → Goes old [] outer st → LeadsOn old (at_dot kind outer st)
dot_leads old kinds.Dot outer st g = rests old expect.Statement outer st refl tt tt g
dot_leads old kind outer st g = tt

typed_leads : (old : List Triple) (name : Option Name) (leaf : Leaf) (text : List ℕ) (hole : Hole) (outer : List Hole) (st : State) → Begins old hole outer st
    → LeadsOn old (typed_by name leaf text hole outer st)
typed_leads old (Some name) leaf text hole outer st b =
    any_leads old (name_of name st) (λ iri. filled hole leaf.at (terms.Literal text iri []) outer st)
    (λ iri. plain_leads old hole leaf.at (terms.Literal text iri []) outer st b (omega arith))
typed_leads old None leaf text hole outer st b = tt

abbrev goes : (old : List Triple) (next : Expected) (outer : List Hole) (st : State) → Numbered old next outer st → Goes old (next_waiting next) outer st
goes old next outer st h = record { fine = h.fine; outer_below = h.outer_below; few_open = h.few_open }

plain_move_leads : (old : List Triple) (next : Expected) (outer : List Hole) (kind : TokenKind) (leaf : Leaf) (st : State) → Numbered old next outer st
    → LeadsOn old (plain_move next outer kind leaf st)
plain_move_leads old expect.Statement outer kind leaf st h = statement_leads old kind leaf outer st (goes old expect.Statement outer st h)
plain_move_leads old (expect.Prefix dot) outer kind leaf st h = prefix_leads old kind leaf dot outer st (goes old (expect.Prefix dot) outer st h)
plain_move_leads old (expect.Namespace dot prefix) outer kind leaf st h = namespace_leads old kind leaf dot prefix outer st (goes old (expect.Namespace dot prefix) outer st h)
plain_move_leads old (expect.Base dot) outer kind leaf st h = base_leads old kind leaf dot outer st (goes old (expect.Base dot) outer st h)
plain_move_leads old expect.DirectiveDot outer kind leaf st h = dot_leads old kind outer st (goes old expect.DirectiveDot outer st h)
plain_move_leads old (expect.Verb s) outer kind leaf st h = verb_leads old kind leaf s outer st (goes old (expect.Verb s) outer st h) h.next_below
plain_move_leads old (expect.AfterSemicolon s) outer kind leaf st h = semicolon_leads old kind leaf s outer st (goes old (expect.AfterSemicolon s) outer st h) h.next_below
plain_move_leads old (expect.AfterObject s p) outer kind leaf st h =
    object_end_leads old kind leaf s p outer st (goes old (expect.AfterObject s p) outer st h) h.next_below.0 h.next_below.1
plain_move_leads old (expect.AfterListed s) outer kind leaf st h = after_listed_leads old kind leaf s outer st (goes old (expect.AfterListed s) outer st h) h.next_below
plain_move_leads old (expect.Object s p) outer kind leaf st h =
    begin_leads old (as_quoting kind) kind (holes.Object s p) leaf outer st tt (record { fine = h.fine; hole_below = h.next_below; outer_below = h.outer_below; few_open = h.few_open })
plain_move_leads old (expect.Item chain) outer kind leaf st h = collection_leads old kind leaf chain outer st (goes old (expect.Item chain) outer st h) h.next_below
plain_move_leads old (expect.Property node) outer kind leaf st h = brackets_lead old kind leaf node outer st (goes old (expect.Property node) outer st h) h.next_below h.shaped
plain_move_leads old (expect.Datatype text hole) outer kind leaf st h =
    typed_leads old (as_name kind leaf) leaf text hole outer st (record { fine = h.fine; hole_below = h.next_below; outer_below = h.outer_below; few_open = h.few_open })
plain_move_leads old (expect.Suffix text at hole) outer kind leaf st h = tt

onward_leads : (old : List Triple) (m : Move) (kind : TokenKind) (leaf : Leaf) → LeadsOn old m → LeadsOn old (onward m kind leaf)
onward_leads old (to c st) kind leaf h = plain_move_leads old c.next c.outer kind leaf st h
onward_leads old stuck kind leaf h = tt
onward_leads old (fails fault) kind leaf h = tt

string_leads : (old : List Triple) (kind : TokenKind) (leaf : Leaf) (text : List ℕ) (at : ℕ) (hole : Hole) (outer : List Hole) (st : State) → Begins old hole outer st
    → LeadsOn old (after_string kind leaf text at hole outer st)
string_leads old kinds.LanguageTag leaf text at hole outer st b = plain_leads old hole leaf.at (terms.Literal text rdf_lang_string (tag_of leaf.text)) outer st b (omega arith)
string_leads old kinds.DoubleCaret leaf text at hole outer st b = record { fine = b.fine; next_below = b.hole_below; outer_below = b.outer_below; few_open = b.few_open; shaped = tt }
string_leads old kind leaf text at hole outer st b =
    if_leads old (follows hole outer kind) (onward (filled hole at (terms.Literal text xsd_string []) outer st) kind leaf) stuck
    (onward_leads old (filled hole at (terms.Literal text xsd_string []) outer st) kind leaf (plain_leads old hole at (terms.Literal text xsd_string []) outer st b (omega arith))) tt

move_leads : (old : List Triple) (next : Expected) (outer : List Hole) (kind : TokenKind) (leaf : Leaf) (st : State) → Numbered old next outer st
    → LeadsOn old (move_by next outer kind leaf st)
move_leads old (expect.Suffix text at hole) outer kind leaf st h =
    string_leads old kind leaf text at hole outer st (record { fine = h.fine; hole_below = h.next_below; outer_below = h.outer_below; few_open = h.few_open })
move_leads old expect.Statement outer kind leaf st h = plain_move_leads old expect.Statement outer kind leaf st h
move_leads old next outer kind leaf st h = plain_move_leads old next outer kind leaf st h

pub leads_on : (old : List Triple) (c : Config) (kind : TokenKind) (leaf : Leaf) (st : State) → Numbered old c.next c.outer st → LeadsOn old (move c kind leaf st)
leads_on old c kind leaf st h = move_leads old c.next c.outer kind leaf st h

-- A reader's numbers stay so at each token.
pub stays_numbered : (old : List Triple) (c : Config) (kind : TokenKind) (leaf : Leaf) (st : State) (d : Config) (after : State) → Numbered old c.next c.outer st
    → move c kind leaf st ≡ to d after → Numbered old d.next d.outer after
stays_numbered old c kind leaf st d after h e = let P : Move → Type 0 = λ m. LeadsOn old m in subst P e (move_leads old c.next c.outer kind leaf st h)

pub numbered_first : (base : List ℕ) (old : List Triple) → Numbered old expect.Statement [] (beginning base old)
numbered_first base old = record {
  fine = record {
    new = [];
    rows = sym (append-nil old);
    under = omega arith;
    labels = λ name n e. absurd (cc);
    each = λ n a b. absurd (omega (arith, a, b));
  };
  next_below = tt;
  outer_below = tt;
  few_open = omega arith;
  shaped = tt;
}
