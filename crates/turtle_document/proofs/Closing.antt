-- Wherever a reader stands, the document can be ended, and has no fault before the place of the tokens that end it.
use Rattle.std.proofs.Common.{ℕ, ◌≤◌, Bool, true, false, if◌then◌else◌, List, [], ◌∷◌, ◌++◌, length, Option, None, Some, Result, Ok, Err, inl, arith}
use Rattle.std.specs.List.{list_any}
use Rattle.std.specs.Prelude.{nat_le}
use Rattle.iri_resolve.specs.Excluded.{is_excluded}
use Rattle.iri_resolve.specs.Target.{resolved}
use Rattle.triple_store.specs.declared.fault.TheConstants.{MOST_ROWS}
use Rattle.triple_store.specs.declared.term.Term.{Term}
use Rattle.triple_store.specs.declared.term.Term.TheVariants as terms
use Rattle.turtle_grammar.specs.Tree.{Leaf, Suffix, Verb, Object, Items, Predicates, Objects, More}
use Rattle.turtle_grammar.specs.Tree.Name.{full}
use Rattle.turtle_grammar.specs.Value.{reference_of, prefix_of}
use Rattle.turtle_document.specs.Vocabulary.{rdf_type, rdf_first, rdf_rest, rdf_nil}
use Rattle.turtle_document.specs.Meaning.{Fault, State, Read, ◌>>=◌, read, bound, labelled, is_row, add, absolute, ended, items_of, predicates_of, document_of}
use Rattle.turtle_document.specs.Answer.{fault_at, IsClearTo}
use Rattle.turtle_document.specs.Machine.{Config, last_of}
use Rattle.turtle_document.specs.declared.expected.Hole.{Hole}
use Rattle.turtle_document.specs.declared.expected.Hole.TheVariants as holes
use Rattle.turtle_document.specs.declared.expected.Expected.{Expected}
use Rattle.turtle_document.specs.declared.expected.Expected.TheVariants as expect
use Rattle.turtle_document.proofs.Completion.{Tail, Behind, Up, up_of, tail_of, Dots, Completion, completed_by, collected, Partial, completed}

-- no fault stands before a place
abbrev Clear : {A : Type 0} → ℕ → Result A Fault → Type 0
Clear n (Ok a) = Unit {0}
Clear n (Err f) = n ≤ fault_at f

clear_bind : {A B : Type 0} (n : ℕ) (r : Result A Fault) (f : A → Result B Fault) → Clear n r → ((a : A) → Clear n (f a)) → Clear n (r >>= f)
clear_bind n (Ok a) f h g = g a
clear_bind n (Err fault) f h g = h

is_clear : (n : ℕ) (r : Result State Fault) → Clear n r → IsClearTo n r
is_clear n (Ok st) h = tt
is_clear n (Err f) h = h

add_by : (n at : ℕ) (st after : State) (is_there is_full : Bool) → n ≤ at
    → Clear n (if is_there then Ok st else if is_full then Err (Fault.full_store at) else Ok after)
add_by n at st after true is_full h = tt
add_by n at st after false true h = h
add_by n at st after false false h = tt

add_clear : (n at : ℕ) (s p o : Term) (st : State) → n ≤ at → Clear n (add at s p o st)
add_clear n at s p o st h =
    add_by n at st (record st { rows = st.rows ++ record { s = s; p = p; o = o } ∷ [] }) (is_row s p o st.rows) (nat_le MOST_ROWS (length st.rows)) h

ended_clear : (n : ℕ) (before : Option ℕ) (at : ℕ) (st : State) → n ≤ at → Clear n (ended before at st)
ended_clear n None at st h = tt
ended_clear n (Some last) at st h = add_clear n at (terms.Blank last) (terms.Iri rdf_rest) (terms.Iri rdf_nil) st h

absolute_by : (n : ℕ) (iri : List ℕ) (at : ℕ) (is_bad : Bool) → n ≤ at → Clear n (if is_bad then Err (Fault.bad_iri at) else Ok iri)
absolute_by n iri at true h = h
absolute_by n iri at false h = tt

absolute_clear : (n : ℕ) (base : List ℕ) (leaf : Leaf) → n ≤ leaf.at → Clear n (absolute base leaf)
absolute_clear n base leaf h =
    absolute_by n (resolved base (reference_of leaf.text)) leaf.at (list_any is_excluded (reference_of leaf.text)) h

-- a leaf at a place
abbrev leaf_at : ℕ → Leaf
leaf_at n = record { at = n; text = [] }

-- the shortest list of predicates
abbrev short : ℕ → Predicates
short n = Predicates.predicates (Verb.is_a (leaf_at n)) (Objects.one (Object.label (leaf_at n))) More.done

here : (n : ℕ) → n ≤ n
here n = omega arith

short_clear : (n m : ℕ) (s : Term) (st : State) → Clear n (predicates_of (short n) m s st)
short_clear n m s st =
    clear_bind n (add n s (terms.Iri rdf_type) (labelled [] st).term (labelled [] st).state) (λ after. Ok after)
    (add_clear n n s (terms.Iri rdf_type) (labelled [] st).term (labelled [] st).state (here n)) (λ after. tt)

-- the shortest end
abbrev closing : (n : ℕ) (outer : List Hole) → Up outer
closing n [] = []
closing n (holes.Subject ∷ outer) = (short n, leaf_at n, closing n outer)
closing n (holes.ListedSubject ∷ outer) = (None, leaf_at n, closing n outer)
closing n (holes.Object s p ∷ outer) = (Tail.over More.done, leaf_at n, closing n outer)
closing n (holes.Item first node ∷ outer) = (Items.none, leaf_at n, closing n outer)

closing_clear : (n : ℕ) (outer : List Hole) (term : Term) (at : ℕ) (st : State) → n ≤ at → Clear n (up_of outer (closing n outer) term at st)
closing_clear n [] term at st h = tt
closing_clear n (holes.Subject ∷ outer) term at st h =
    clear_bind n (predicates_of (short n) (length outer) term st) (up_of outer (closing n outer) term n)
    (short_clear n (length outer) term st) (λ after. closing_clear n outer term n after (here n))
closing_clear n (holes.ListedSubject ∷ outer) term at st h = closing_clear n outer term n st (here n)
closing_clear n (holes.Object s p ∷ outer) term at st h =
    clear_bind n (add at s p term st >>= tail_of (Tail.over More.done) (length outer) s p) (up_of outer (closing n outer) s n)
    (clear_bind n (add at s p term st) (tail_of (Tail.over More.done) (length outer) s p) (add_clear n at s p term st h) (λ after. tt))
    (λ after. closing_clear n outer s n after (here n))
closing_clear n (holes.Item first node ∷ outer) term at st h =
    clear_bind n (add at (terms.Blank node) (terms.Iri rdf_first) term st >>= items_of Items.none (length outer) (Some node) n)
    (λ (rest : Read). up_of outer (closing n outer) (terms.Blank first) n rest.state)
    (clear_bind n (add at (terms.Blank node) (terms.Iri rdf_first) term st) (items_of Items.none (length outer) (Some node) n)
    (add_clear n at (terms.Blank node) (terms.Iri rdf_first) term st h)
    (λ after. clear_bind n (ended (Some node) n after) (λ last. Ok (read (terms.Iri rdf_nil) last)) (ended_clear n (Some node) n after (here n)) (λ last. tt)))
    (λ rest. closing_clear n outer (terms.Blank first) n rest.state (here n))

closing_dots : (n : ℕ) (dot : Bool) → Dots dot
closing_dots n true = leaf_at n
closing_dots n false = tt

ending : (n : ℕ) (next : Expected) (outer : List Hole) → Completion next outer
ending n expect.Statement outer = []
ending n (expect.Prefix dot) outer = (leaf_at n, leaf_at n, closing_dots n dot, [])
ending n (expect.Namespace dot prefix) outer = (leaf_at n, closing_dots n dot, [])
ending n (expect.Base dot) outer = (leaf_at n, closing_dots n dot, [])
ending n expect.DirectiveDot outer = (leaf_at n, [])
ending n (expect.Verb s) outer = (short n, leaf_at n, closing n outer)
ending n (expect.AfterSemicolon s) outer = (Behind.again More.done, leaf_at n, closing n outer)
ending n (expect.AfterObject s p) outer = (Tail.over More.done, leaf_at n, closing n outer)
ending n (expect.AfterListed s) outer = (None, leaf_at n, closing n outer)
ending n (expect.Object s p) outer = (Object.label (leaf_at n), closing n (holes.Object s p ∷ outer))
ending n (expect.Item chain) outer = (Items.none, leaf_at n, closing n outer)
ending n (expect.Property node) outer = inl (leaf_at n, closing n outer)
ending n (expect.Suffix text at hole) outer = (Suffix.language (leaf_at n), closing n (hole ∷ outer))
ending n (expect.Datatype text hole) outer = (full (leaf_at n), closing n (hole ∷ outer))

ending_clear : (n : ℕ) (next : Expected) (outer : List Hole) (st : State) → Clear n (completed_by next outer (ending n next outer) st)
unfolding ending
ending_clear n expect.Statement outer st = tt
ending_clear n (expect.Prefix dot) outer st =
    clear_bind n (absolute st.base (leaf_at n)) (λ value. document_of [] (record st { prefixes = bound (prefix_of []) value st.prefixes }))
    (absolute_clear n st.base (leaf_at n) (here n)) (λ value. tt)
ending_clear n (expect.Namespace dot prefix) outer st =
    clear_bind n (absolute st.base (leaf_at n)) (λ value. document_of [] (record st { prefixes = bound prefix value st.prefixes }))
    (absolute_clear n st.base (leaf_at n) (here n)) (λ value. tt)
ending_clear n (expect.Base dot) outer st =
    clear_bind n (absolute st.base (leaf_at n)) (λ value. document_of [] (record st { base = value }))
    (absolute_clear n st.base (leaf_at n) (here n)) (λ value. tt)
ending_clear n expect.DirectiveDot outer st = tt
ending_clear n (expect.Verb s) outer st =
    clear_bind n (predicates_of (short n) (length outer) s st) (up_of outer (closing n outer) s n)
    (short_clear n (length outer) s st) (λ after. closing_clear n outer s n after (here n))
ending_clear n (expect.AfterSemicolon s) outer st = closing_clear n outer s n st (here n)
ending_clear n (expect.AfterObject s p) outer st = closing_clear n outer s n st (here n)
ending_clear n (expect.AfterListed s) outer st = closing_clear n outer s n st (here n)
ending_clear n (expect.Object s p) outer st =
    closing_clear n (holes.Object s p ∷ outer) (labelled [] st).term n (labelled [] st).state (here n)
ending_clear n (expect.Item chain) outer st =
    clear_bind n (items_of Items.none (length outer) (last_of chain) n st)
    (λ (rest : Read). up_of outer (closing n outer) (collected chain rest.term) n rest.state)
    (clear_bind n (ended (last_of chain) n st) (λ last. Ok (read (terms.Iri rdf_nil) last)) (ended_clear n (last_of chain) n st (here n)) (λ last. tt))
    (λ rest. closing_clear n outer (collected chain rest.term) n rest.state (here n))
ending_clear n (expect.Property node) outer st = closing_clear n outer (terms.Blank node) n st (here n)
ending_clear n (expect.Suffix text at hole) outer st = closing_clear n (hole ∷ outer) _ n st (here n)
ending_clear n (expect.Datatype text hole) outer st =
    clear_bind n (absolute st.base (leaf_at n)) (λ iri. up_of (hole ∷ outer) (closing n (hole ∷ outer)) (terms.Literal text iri []) n st)
    (absolute_clear n st.base (leaf_at n) (here n)) (λ iri. closing_clear n (hole ∷ outer) (terms.Literal text iri []) n st (here n))

pub some : (n : ℕ) (c : Config) (st : State) → (x : Partial c) × IsClearTo n (completed c x st)
some n c st =
    let x = ending n c.next c.outer in
    (x, is_clear n (completed c x st) (ending_clear n c.next c.outer st))
