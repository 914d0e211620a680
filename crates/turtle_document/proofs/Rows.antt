-- A document's triples come after the rows that are there, and there are never more rows than there may be.
use Rattle.std.proofs.Common.{◌≡◌, ℕ, suc, ◌≤◌, Bool, true, false, if◌then◌else◌, List, [], ◌∷◌, ◌++◌, length, Option, None, Some, Result, Ok, Err, refl, sym, ap, ◌∙◌, subst, append_assoc, append-nil, length-append, arith}
use Rattle.std.proofs.lemmas.Bool.{leb-false}
use Rattle.std.specs.Prelude.{nat_lt, nat_le}
use Rattle.triple_store.specs.declared.fault.TheConstants.{MOST_ROWS}
use Rattle.triple_store.specs.declared.term.Term.{Term}
use Rattle.triple_store.specs.declared.term.Term.TheVariants.{Iri, Blank}
use Rattle.triple_store.specs.declared.term.Triple.{Triple}
use Rattle.turtle_grammar.specs.Tree.{Leaf, Object, Items, Predicates, Objects, More, Triples, Statement, Document, as_object}
use Rattle.turtle_grammar.specs.Tree.Object.{named, label, anonymous, quoted, short, collection, properties}
use Rattle.turtle_grammar.specs.Tree.Items.{none, item}
use Rattle.turtle_grammar.specs.Tree.Predicates.{predicates}
use Rattle.turtle_grammar.specs.Tree.Objects.{one, several}
use Rattle.turtle_grammar.specs.Tree.More.{done, empty, next}
use Rattle.turtle_grammar.specs.Tree.Triples.{about, alone, with_more}
use Rattle.turtle_grammar.specs.Tree.Statement.{at_prefix, at_base, sparql_prefix, sparql_base, triples}
use Rattle.turtle_grammar.specs.Value.{string_of, prefix_of}
use Rattle.turtle_document.specs.Vocabulary.{rdf_first, rdf_rest, rdf_nil}
use Rattle.turtle_document.specs.Meaning.{Fault, State, Read, ◌>>=◌, read, most_open, bound, numbered, fresh, labelled_as, may_open, is_row, add, absolute, name_of, literal_of, verb_of, object_start, object_end, started, linked, ended, object_of, items_of, predicates_of, objects_of, more_of, triples_of, prefixed_by, based_on, statement_of, document_of, beginning}
use Rattle.turtle_document.specs.Answer.{KeepsRows}

-- the rows of one environment are those of an earlier one and new ones, and still not too many
record Grows (st after : State) : Type 0 where
  front : (new : List Triple) × (after.rows ≡ st.rows ++ new)
  few : length st.rows ≤ MOST_ROWS → length after.rows ≤ MOST_ROWS

-- where there is a result, it has grown from an environment
abbrev GrowsIf : {A : Type 0} → (A → State) → State → Result A Fault → Type 0
GrowsIf of st (Ok a) = Grows st (of a)
GrowsIf of st (Err f) = Unit {0}

abbrev here : State → State
here st = st

abbrev left : Read → State
left r = r.state

same_rows : (st after : State) → after.rows ≡ st.rows → Grows st after
same_rows st after e =
    let P : List Triple → Type 0 = λ rows. length rows ≤ MOST_ROWS in
    record { front = ([], e ∙ sym (append-nil st.rows)); few = λ h. subst P (sym e) h }

grows_on : (a b c : State) → Grows a b → Grows b c → Grows a c
grows_on a b c g h = record {
  front = (
    g.front.0 ++ h.front.0,
    h.front.1 ∙ (ap (λ rows. rows ++ h.front.0) g.front.1 ∙ append_assoc a.rows g.front.0 h.front.0),
  );
  few = λ m. h.few (g.few m);
}

grows_then : {A : Type 0} (of : A → State) (a b : State) (r : Result A Fault) → Grows a b → GrowsIf of b r → GrowsIf of a r
grows_then of a b (Ok x) g h = grows_on a b (of x) g h
grows_then of a b (Err f) g h = tt

grows_bind : {A B : Type 0} (from : A → State) (of : B → State) (st : State) (r : Result A Fault) (f : A → Result B Fault)
    → GrowsIf from st r → ((a : A) → GrowsIf of (from a) (f a)) → GrowsIf of st (r >>= f)
grows_bind from of st (Ok a) f g h = grows_then of st (from a) (f a) g (h a)
grows_bind from of st (Err fault) f g h = tt

-- what leaves the environment alone
still : {A : Type 0} (st : State) (r : Result A Fault) → GrowsIf (λ a. st) st r
still st (Ok a) = same_rows st st refl
still st (Err f) = tt

add_by : (at : ℕ) (s p o : Term) (st : State) (is_there is_full : Bool) → nat_le MOST_ROWS (length st.rows) ≡ is_full
    → GrowsIf here st (
    if is_there then Ok st else if is_full then Err (Fault.full_store at) else Ok (record st { rows = st.rows ++ record { s = s; p = p; o = o } ∷ [] }))
add_by at s p o st true is_full e = same_rows st st refl
add_by at s p o st false true e = tt
add_by at s p o st false false e = record {
  front = (record { s = s; p = p; o = o } ∷ [], refl);
  few = λ m.
      let small = leb-false MOST_ROWS (length st.rows) e in
      let long = length-append st.rows (record { s = s; p = p; o = o } ∷ []) in
      omega arith;
}

add_grows : (at : ℕ) (s p o : Term) (st : State) → GrowsIf here st (add at s p o st)
add_grows at s p o st = add_by at s p o st (is_row s p o st.rows) (nat_le MOST_ROWS (length st.rows)) refl

open_by : (at : ℕ) (st : State) (may : Bool) → GrowsIf here st (if may then Ok st else Err (Fault.too_deep at))
open_by at st true = same_rows st st refl
open_by at st false = tt

open_grows : (at n : ℕ) (st : State) → GrowsIf here st (may_open at n st)
open_grows at n st = open_by at st (nat_lt n most_open)

labelled_grows : (number : Option ℕ) (name : List ℕ) (st : State) → Grows st (labelled_as number name st).state
labelled_grows None name st = same_rows st (labelled_as None name st).state refl
labelled_grows (Some number) name st = same_rows st st refl

linked_grows : (before : Option ℕ) (at node : ℕ) (st : State) → GrowsIf here st (linked before at node st)
linked_grows None at node st = same_rows st st refl
linked_grows (Some last) at node st = add_grows at (Blank last) (Iri rdf_rest) (Blank node) st

ended_grows : (before : Option ℕ) (at : ℕ) (st : State) → GrowsIf here st (ended before at st)
ended_grows None at st = same_rows st st refl
ended_grows (Some last) at st = add_grows at (Blank last) (Iri rdf_rest) (Iri rdf_nil) st

started_grows : (x : Object) (n : ℕ) (st : State) → GrowsIf here st (started x n st)
started_grows (named name) n st = grows_bind (λ iri. st) here st (name_of name st) (λ iri. Ok st) (still st (name_of name st)) (λ iri. same_rows st st refl)
started_grows (label leaf) n st = same_rows st st refl
started_grows (anonymous start end) n st = open_grows start.at n st
started_grows (quoted quoting leaf suffix) n st = same_rows st st refl
started_grows (short shorthand leaf) n st = same_rows st st refl
started_grows (collection start items end) n st = open_grows start.at n st
started_grows (properties start inner end) n st = open_grows start.at n st

numbered_grows : (st : State) → Grows st (numbered st)
numbered_grows st = same_rows st (numbered st) refl

mutual
  object_grows : (x : Object) (n : ℕ) (st : State) → GrowsIf left st (object_of x n st)
  object_grows (named name) n st =
      grows_bind (λ iri. st) left st (name_of name st) (λ iri. Ok (read (Iri iri) st)) (still st (name_of name st)) (λ iri. same_rows st st refl)
  object_grows (label leaf) n st = labelled_grows (st.labels leaf.text) leaf.text st
  object_grows (anonymous start end) n st =
      grows_bind here left st (may_open start.at n st) (λ open_here. Ok (fresh open_here)) (open_grows start.at n st) numbered_grows
  object_grows (quoted quoting leaf suffix) n st =
      grows_bind (λ term. st) left st (literal_of (string_of quoting leaf.text) suffix st) (λ term. Ok (read term st))
      (still st (literal_of (string_of quoting leaf.text) suffix st)) (λ term. same_rows st st refl)
  object_grows (short shorthand leaf) n st = same_rows st st refl
  object_grows (collection start items end) n st =
      grows_bind here left st (may_open start.at n st) (items_of items (suc n) None end.at) (open_grows start.at n st)
      (λ after. items_grows items (suc n) None end.at after)
  object_grows (properties start inner end) n st =
      grows_bind here left st (may_open start.at n st)
      (λ after. predicates_of inner (suc n) (fresh after).term (fresh after).state >>= (λ last. Ok (read (fresh after).term last)))
      (open_grows start.at n st)
      (λ after. grows_bind here left after (predicates_of inner (suc n) (fresh after).term (fresh after).state) (λ last. Ok (read (fresh after).term last))
      (grows_then here after (numbered after) (predicates_of inner (suc n) (fresh after).term (fresh after).state) (numbered_grows after)
      (predicates_grows inner (suc n) (fresh after).term (numbered after)))
      (λ last. same_rows last last refl))

  items_grows : (x : Items) (n : ℕ) (before : Option ℕ) (close : ℕ) (st : State) → GrowsIf left st (items_of x n before close st)
  items_grows none n before close st =
      grows_bind here left st (ended before close st) (λ after. Ok (read (Iri rdf_nil) after)) (ended_grows before close st) (λ after. same_rows after after refl)
  items_grows (item object items) n before close st =
      grows_bind here left st (started object n st)
      (λ a. linked before (object_start object) a.blanks (numbered a) >>= (λ inside.
      object_of object n inside >>= (λ value.
      add (object_end object) (Blank a.blanks) (Iri rdf_first) value.term value.state >>= (λ after.
      items_of items n (Some a.blanks) close after >>= (λ rest. Ok (read (Blank a.blanks) rest.state))))))
      (started_grows object n st)
      (λ a. grows_bind here left a (linked before (object_start object) a.blanks (numbered a))
      (λ inside. object_of object n inside >>= (λ value.
      add (object_end object) (Blank a.blanks) (Iri rdf_first) value.term value.state >>= (λ after.
      items_of items n (Some a.blanks) close after >>= (λ rest. Ok (read (Blank a.blanks) rest.state)))))
      (grows_then here a (numbered a) (linked before (object_start object) a.blanks (numbered a)) (numbered_grows a)
      (linked_grows before (object_start object) a.blanks (numbered a)))
      (λ inside. grows_bind left left inside (object_of object n inside)
      (λ value. add (object_end object) (Blank a.blanks) (Iri rdf_first) value.term value.state >>= (λ after.
      items_of items n (Some a.blanks) close after >>= (λ rest. Ok (read (Blank a.blanks) rest.state))))
      (object_grows object n inside)
      (λ value. grows_bind here left value.state (add (object_end object) (Blank a.blanks) (Iri rdf_first) value.term value.state)
      (λ after. items_of items n (Some a.blanks) close after >>= (λ rest. Ok (read (Blank a.blanks) rest.state)))
      (add_grows (object_end object) (Blank a.blanks) (Iri rdf_first) value.term value.state)
      (λ after. grows_bind left left after (items_of items n (Some a.blanks) close after) (λ rest. Ok (read (Blank a.blanks) rest.state))
      (items_grows items n (Some a.blanks) close after) (λ rest. same_rows rest.state rest.state refl)))))

  predicates_grows : (x : Predicates) (n : ℕ) (s : Term) (st : State) → GrowsIf here st (predicates_of x n s st)
  predicates_grows (predicates verb objects more) n s st =
      grows_bind (λ p. st) here st (verb_of verb st) (λ p. objects_of objects n s p st >>= more_of more n s) (still st (verb_of verb st))
      (λ p. grows_bind here here st (objects_of objects n s p st) (more_of more n s) (objects_grows objects n s p st)
      (λ after. more_grows more n s after))

  objects_grows : (x : Objects) (n : ℕ) (s p : Term) (st : State) → GrowsIf here st (objects_of x n s p st)
  objects_grows (one object) n s p st =
      grows_bind left here st (object_of object n st) (λ value. add (object_end object) s p value.term value.state) (object_grows object n st)
      (λ value. add_grows (object_end object) s p value.term value.state)
  objects_grows (several object comma objects) n s p st =
      grows_bind here here st (object_of object n st >>= (λ value. add (object_end object) s p value.term value.state)) (objects_of objects n s p)
      (grows_bind left here st (object_of object n st) (λ value. add (object_end object) s p value.term value.state) (object_grows object n st)
      (λ value. add_grows (object_end object) s p value.term value.state))
      (λ after. objects_grows objects n s p after)

  more_grows : (x : More) (n : ℕ) (s : Term) (st : State) → GrowsIf here st (more_of x n s st)
  more_grows done n s st = same_rows st st refl
  more_grows (empty semicolon more) n s st = more_grows more n s st
  more_grows (next semicolon list) n s st = predicates_grows list n s st

triples_grow : (x : Triples) (st : State) → GrowsIf here st (triples_of x st)
triples_grow (about subject inner) st =
    grows_bind left here st (object_of (as_object subject) 0 st) (λ s. predicates_of inner 0 s.term s.state) (object_grows (as_object subject) 0 st)
    (λ s. predicates_grows inner 0 s.term s.state)
triples_grow (alone start inner end) st =
    grows_bind left here st (object_of (properties start inner end) 0 st) (λ s. Ok s.state) (object_grows (properties start inner end) 0 st)
    (λ s. same_rows s.state s.state refl)
triples_grow (with_more start inner end behind) st =
    grows_bind left here st (object_of (properties start inner end) 0 st) (λ s. predicates_of behind 0 s.term s.state)
    (object_grows (properties start inner end) 0 st) (λ s. predicates_grows behind 0 s.term s.state)

prefixed_grows : (namespace iri : Leaf) (st : State) → GrowsIf here st (prefixed_by namespace iri st)
prefixed_grows namespace iri st =
    grows_bind (λ value. st) here st (absolute st.base iri) (λ value. Ok (record st { prefixes = bound (prefix_of namespace.text) value st.prefixes }))
    (still st (absolute st.base iri)) (λ value. same_rows st (record st { prefixes = bound (prefix_of namespace.text) value st.prefixes }) refl)

based_grows : (iri : Leaf) (st : State) → GrowsIf here st (based_on iri st)
based_grows iri st =
    grows_bind (λ value. st) here st (absolute st.base iri) (λ value. Ok (record st { base = value }))
    (still st (absolute st.base iri)) (λ value. same_rows st (record st { base = value }) refl)

statement_grows : (x : Statement) (st : State) → GrowsIf here st (statement_of x st)
statement_grows (at_prefix at namespace iri dot) st = prefixed_grows namespace iri st
statement_grows (at_base at iri dot) st = based_grows iri st
statement_grows (sparql_prefix word namespace iri) st = prefixed_grows namespace iri st
statement_grows (sparql_base word iri) st = based_grows iri st
statement_grows (triples list dot) st = triples_grow list st

document_grows : (x : Document) (st : State) → GrowsIf here st (document_of x st)
document_grows [] st = same_rows st st refl
document_grows (statement ∷ statements) st =
    grows_bind here here st (statement_of statement st) (document_of statements) (statement_grows statement st) (λ after. document_grows statements after)

grown : (st after : State) (r : Result State Fault) → r ≡ Ok after → GrowsIf here st r → Grows st after
grown st after r e g = let P : Result State Fault → Type 0 = λ x. GrowsIf here st x in subst P e g

pub keeps_rows : KeepsRows
keeps_rows base old bytes rows h few =
    let start = beginning base old in
    let m = h.2.1 in
    let g = grown start h.2.0 (document_of m.0 start) m.2 (document_grows m.0 start) in
    let P : List Triple → Type 0 = λ r. length r ≤ MOST_ROWS in
    ((g.front.0, h.2.2 ∙ g.front.1), subst P (sym h.2.2) (g.few few))
