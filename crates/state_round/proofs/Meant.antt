-- The meaning of a state file's tree is its triples.
use Rattle.std.proofs.Common.{◌≡◌, ℕ, suc, ◌+◌, ◌*◌, ◌<◌, ◌≤◌, nat_le, Bool, true, false, cond, ◌&&◌, ◌||◌, List, [], ◌∷◌, ◌++◌, length, codes, None, Result, Ok, refl, sym, ap, ◌∙◌, arith, append_assoc, append-nil, length-append, leb-true}
use Rattle.std.specs.Prelude.{decimal}
use Rattle.std.specs.List.{list_any, AllByRecursion}
use Rattle.std.specs.Str.{chars}
use Rattle.base64.specs.Engines.{standard}
use Rattle.base64.specs.GeneralPurpose.{encode_of}
use Rattle.state_store.specs.declared.prop.Prop.{Prop}
use Rattle.triple_store.specs.Triples.{same_term}
use Rattle.triple_store.specs.declared.fault.TheConstants.{MOST_ROWS}
use Rattle.triple_store.specs.declared.term.Term.{Term}
use Rattle.triple_store.specs.declared.term.Term.TheVariants.{Iri, Blank, Literal}
use Rattle.triple_store.specs.declared.term.Triple.{Triple}
use Rattle.turtle_grammar.specs.Tree.{Verb, Object, More}
use Rattle.turtle_grammar.specs.Tree.Name.{full, prefixed}
use Rattle.turtle_grammar.specs.Tree.Quoting.{double}
use Rattle.turtle_grammar.specs.Tree.Suffix.{nothing}
use Rattle.turtle_grammar.specs.Tree.Verb.{predicate}
use Rattle.turtle_grammar.specs.Tree.Object.{named, quoted}
use Rattle.turtle_grammar.specs.Tree.Predicates.{predicates}
use Rattle.turtle_grammar.specs.Tree.Objects.{one}
use Rattle.turtle_grammar.specs.Tree.More.{done, next}
use Rattle.turtle_document.specs.Meaning.{Fault, State, ◌>>=◌, read, bound, is_row, add, absolute, verb_of, object_of, object_end, predicates_of, objects_of, more_of}
use Rattle.vocabulary.specs.Words.{iri_of}
use Rattle.vocabulary.specs.declared.word.Word.TheVariants.{FxType, FxFlags, FxBytes, XsdInteger, XsdString}
use Rattle.state_round.specs.RoundTrip.{IsPlain, IsSelf, IsWritable}
use Rattle.state_round.proofs.Words.{angle, quote, row_uri, kind_uri, state_namespace, fx_namespace}
use Rattle.state_round.proofs.Tree.{Places, shift, leaf, bytes_object, bytes_tree, flags_object, flags_tree, type_object, type_tree, value_tree, more_tree, properties_tree, node_tree}
use Rattle.state_round.proofs.Values.{absolute_self, string_is, self_of}
use Rattle.state_round.proofs.Encoded.{encoded_plain}
use Rattle.state_round.proofs.Rows.{term_of, type_row, flags_row, bytes_row, value_rows, key_row, property_rows, properties_rows, blanks_after, own, own_push, own_both, own-next, own-first, value_other, says, no_row, blank_other}
use lib.Utf8.{encode}

-- ---- steps

pub bind : {A B : Type 0} (r : Result A Fault) (f : A → Result B Fault) (x : A) (y : Result B Fault) → r ≡ Ok x → f x ≡ y → r >>= f ≡ y
bind r f x y e k = ap (λ r. r >>= f) e ∙ k

-- both prefixes are bound
abbrev pub state : List ℕ → ℕ → List Triple → State
state base b rows = record {
  base = base;
  prefixes = bound (codes "fx") fx_namespace (bound (codes "state") state_namespace (λ name. None));
  labels = λ name. None;
  blanks = b;
  rows = rows;
}

third : {A : Type 0} (a b : Bool) (x y z : A) → a ≡ false → b ≡ false → cond a x (cond b y z) ≡ z
third true b x y z e f = cc
third false true x y z e f = cc
third false false x y z e f = refl

has_room : (n : ℕ) → n < MOST_ROWS → nat_le MOST_ROWS n ≡ false
has_room n less = by (nat_le MOST_ROWS n) refl
  where
    by : (b : Bool) → nat_le MOST_ROWS n ≡ b → nat_le MOST_ROWS n ≡ false
    by true e = absurd (let most : MOST_ROWS ≤ n = leb-true MOST_ROWS n e in omega (arith, most, less))
    by false e = e

pub added : (base : List ℕ) (b : ℕ) (rows : List Triple) (at : ℕ) (t : Triple) → is_row t.s t.p t.o rows ≡ false → length rows < MOST_ROWS
    → add at t.s t.p t.o (state base b rows) ≡ Ok (state base b (rows ++ t ∷ []))
added base b rows at t new room = third (is_row t.s t.p t.o rows) (nat_le MOST_ROWS (length rows)) _ _ _ new (has_room (length rows) room)

-- a verb and its object, before more
pub one_more : (verb : Verb) (object : Object) (more : More) (n : ℕ) (s p o : Term) (st inside after : State) (r : Result State Fault)
    → verb_of verb st ≡ Ok p → object_of object n st ≡ Ok (read o inside) → add (object_end object) s p o inside ≡ Ok after → more_of more n s after ≡ r
    → predicates_of (predicates verb (one object) more) n s st ≡ r
one_more verb object more n s p o st inside after r v ob a m =
    bind (verb_of verb st) (λ p. objects_of (one object) n s p st >>= more_of more n s) p r v
    (bind (objects_of (one object) n s p st) (more_of more n s) after r (bind (object_of object n st) (λ value. add (object_end object) s p value.term value.state) (read o inside) (Ok after) ob a) m)

-- ---- words

pub type_verb : (base : List ℕ) (b : ℕ) (rows : List Triple) (at : ℕ) → verb_of (predicate (prefixed (leaf at (codes "fx:type")))) (state base b rows) ≡ Ok (term_of FxType)
unfolding iri_of chars encode
type_verb base b rows at = refl

pub flags_verb : (base : List ℕ) (b : ℕ) (rows : List Triple) (at : ℕ) → verb_of (predicate (prefixed (leaf at (codes "fx:flags")))) (state base b rows) ≡ Ok (term_of FxFlags)
unfolding iri_of chars encode
flags_verb base b rows at = refl

pub bytes_verb : (base : List ℕ) (b : ℕ) (rows : List Triple) (at : ℕ) → verb_of (predicate (prefixed (leaf at (codes "fx:bytes")))) (state base b rows) ≡ Ok (term_of FxBytes)
unfolding iri_of chars encode
bytes_verb base b rows at = refl

pub iri_verb : (base : List ℕ) (b : ℕ) (rows : List Triple) (at : ℕ) (iri : List ℕ) → IsSelf iri → verb_of (predicate (full (leaf at (angle iri)))) (state base b rows) ≡ Ok (Iri iri)
iri_verb base b rows at iri is = bind (absolute base (leaf at (angle iri))) (λ iri. Ok (Iri iri)) iri (Ok (Iri iri)) (absolute_self base iri at is) refl

pub iri_object : (base : List ℕ) (b n : ℕ) (rows : List Triple) (at : ℕ) (iri : List ℕ) → IsSelf iri → object_of (named (full (leaf at (angle iri)))) n (state base b rows) ≡ Ok (read (Iri iri) (state base b rows))
iri_object base b n rows at iri is =
    bind (absolute base (leaf at (angle iri))) (λ iri. Ok (read (Iri iri) (state base b rows))) iri (Ok (read (Iri iri) (state base b rows))) (absolute_self base iri at is) refl

pub text_object : (base : List ℕ) (b n : ℕ) (rows : List Triple) (at : ℕ) (text : List ℕ) → IsPlain text
    → object_of (quoted double (leaf at (quote text)) nothing) n (state base b rows) ≡ Ok (read (Literal text (iri_of XsdString) []) (state base b rows))
text_object base b n rows at text is = ap (λ t. Ok (read (Literal t (iri_of XsdString) []) (state base b rows))) (string_is text is)

-- ---- a value

pushed : (rows : List Triple) (t : Triple) (n most : ℕ) → length rows + suc n ≤ most → length (rows ++ t ∷ []) + n ≤ most
pushed rows t n most room = omega (arith, room, length-append rows (t ∷ []))

room_here : (rows : List Triple) (n : ℕ) → length rows + suc n ≤ MOST_ROWS → length rows < MOST_ROWS
room_here rows n room = omega (arith, room)

-- a verb and an object whose triple is new, before more
pub row_read : (verb : Verb) (object : Object) (more : More) (n : ℕ) (t : Triple) (base : List ℕ) (b : ℕ) (rows : List Triple) (r : Result State Fault)
    → verb_of verb (state base b rows) ≡ Ok t.p → object_of object n (state base b rows) ≡ Ok (read t.o (state base b rows)) → is_row t.s t.p t.o rows ≡ false → length rows < MOST_ROWS
    → more_of more n t.s (state base b (rows ++ t ∷ [])) ≡ r → predicates_of (predicates verb (one object) more) n t.s (state base b rows) ≡ r
row_read verb object more n t base b rows r v ob new room m =
    one_more verb object more n t.s t.p t.o (state base b rows) (state base b rows) (state base b (rows ++ t ∷ [])) r v ob (added base b rows (object_end object) t new room) m

bytes_read : (place : Places) (urids : List (List ℕ)) (row : ℕ × Prop) (base : List ℕ) (b next_b : ℕ) (rows : List Triple) → own (Blank b) rows ≡ type_row b urids row ∷ flags_row b row ∷ []
    → length rows + 1 ≤ MOST_ROWS → predicates_of (bytes_tree place row) 2 (Blank b) (state base next_b rows) ≡ Ok (state base next_b (rows ++ bytes_row b row ∷ []))
unfolding iri_of
bytes_read place urids row base b next_b rows held room =
    row_read (predicate (prefixed (leaf (place 7) (codes "fx:bytes")))) (bytes_object place row) done 2 (bytes_row b row) base next_b rows (Ok (state base next_b (rows ++ bytes_row b row ∷ [])))
    (bytes_verb base next_b rows (place 7)) (text_object base next_b 2 rows (place 8) (encode_of standard row.1.bytes) (encoded_plain row.1.bytes))
    (no_row rows (type_row b urids row ∷ flags_row b row ∷ []) (Blank b) (term_of FxBytes) (Literal (encode_of standard row.1.bytes) (iri_of XsdString) []) held refl) (room_here rows 0 room) refl

flags_read : (place : Places) (urids : List (List ℕ)) (row : ℕ × Prop) (base : List ℕ) (b next_b : ℕ) (rows : List Triple) → own (Blank b) rows ≡ type_row b urids row ∷ []
    → length rows + 2 ≤ MOST_ROWS → predicates_of (flags_tree place row) 2 (Blank b) (state base next_b rows) ≡ Ok (state base next_b (rows ++ flags_row b row ∷ bytes_row b row ∷ []))
unfolding iri_of
flags_read place urids row base b next_b rows held room =
    row_read (predicate (prefixed (leaf (place 4) (codes "fx:flags")))) (flags_object place row) (next (leaf (place 6) (codes ";")) (bytes_tree place row)) 2 (flags_row b row) base next_b rows
    (Ok (state base next_b (rows ++ flags_row b row ∷ bytes_row b row ∷ [])))
    (flags_verb base next_b rows (place 4)) refl
    (no_row rows (type_row b urids row ∷ []) (Blank b) (term_of FxFlags) (Literal (decimal row.1.flags) (iri_of XsdInteger) []) held refl) (room_here rows 1 room)
    (bytes_read place urids row base b next_b (rows ++ flags_row b row ∷ []) (own_push rows (type_row b urids row ∷ []) (Blank b) (flags_row b row) held refl) (pushed rows (flags_row b row) 1 MOST_ROWS room)
    ∙ ap (λ l. Ok (state base next_b l)) (append_assoc rows (flags_row b row ∷ []) (bytes_row b row ∷ [])))

type_read : (place : Places) (urids : List (List ℕ)) (row : ℕ × Prop) (base : List ℕ) (b next_b : ℕ) (rows : List Triple) → IsWritable urids row → own (Blank b) rows ≡ []
    → length rows + 3 ≤ MOST_ROWS → predicates_of (type_tree place urids row) 2 (Blank b) (state base next_b rows) ≡ Ok (state base next_b (rows ++ value_rows b urids row))
unfolding iri_of
type_read place urids row base b next_b rows is held room =
    row_read (predicate (prefixed (leaf (place 1) (codes "fx:type")))) (type_object place urids row) (next (leaf (place 3) (codes ";")) (flags_tree place row)) 2 (type_row b urids row) base next_b rows
    (Ok (state base next_b (rows ++ value_rows b urids row)))
    (type_verb base next_b rows (place 1)) (iri_object base next_b 2 rows (place 2) (kind_uri urids row) (self_of urids row.1.kind is.kind))
    (no_row rows [] (Blank b) (term_of FxType) (Iri (kind_uri urids row)) held refl) (room_here rows 2 room)
    (flags_read place urids row base b next_b (rows ++ type_row b urids row ∷ []) (own_push rows [] (Blank b) (type_row b urids row) held refl) (pushed rows (type_row b urids row) 2 MOST_ROWS room)
    ∙ ap (λ l. Ok (state base next_b l)) (append_assoc rows (type_row b urids row ∷ []) (flags_row b row ∷ bytes_row b row ∷ [])))

pub value_read : (place : Places) (urids : List (List ℕ)) (row : ℕ × Prop) (base : List ℕ) (b : ℕ) (rows : List Triple) → IsWritable urids row → own (Blank b) rows ≡ []
    → length rows + 3 ≤ MOST_ROWS → object_of (value_tree place urids row) 1 (state base b rows) ≡ Ok (read (Blank b) (state base (suc b) (rows ++ value_rows b urids row)))
value_read place urids row base b rows is held room =
    bind (predicates_of (type_tree place urids row) 2 (Blank b) (state base (suc b) rows)) (λ after. Ok (read (Blank b) after)) (state base (suc b) (rows ++ value_rows b urids row))
    (Ok (read (Blank b) (state base (suc b) (rows ++ value_rows b urids row)))) (type_read place urids row base b (suc b) rows is held room) refl

-- ---- properties

-- the node of properties has a number, and so have its values, below the next one
pub record IsNode (node b : ℕ) (rows : List Triple) : Type 0 where
  pub less : node < b
  pub fresh : (m : ℕ) → b ≤ m → own (Blank m) rows ≡ []
  pub apart : (m : ℕ) (p : Term) → b ≤ m → list_any (says p (Blank m)) (own (Blank node) rows) ≡ false

own_property : (m node b : ℕ) (urids : List (List ℕ)) (row : ℕ × Prop) → (m ≡ node → ⊥) → (m ≡ b → ⊥) → own (Blank m) (property_rows node b urids row) ≡ []
own_property m node b urids row other apart =
    own_both (value_rows b urids row) (key_row node b urids row ∷ []) [] [] (Blank m) (value_other (Blank m) b urids row (blank_other m b apart)) (own-next (Blank m) (key_row node b urids row) [] (blank_other m node other))

own_key : (node b : ℕ) (urids : List (List ℕ)) (row : ℕ × Prop) → node < b → own (Blank node) (property_rows node b urids row) ≡ key_row node b urids row ∷ []
own_key node b urids row less =
    own_both (value_rows b urids row) (key_row node b urids row ∷ []) [] (key_row node b urids row ∷ []) (Blank node)
    (value_other (Blank node) b urids row (blank_other node b (λ e. omega (arith, less, e)))) (own-first (Blank node) (key_row node b urids row) [] refl)

any_both : (test : Triple → Bool) (a b : List Triple) → list_any test a ≡ false → list_any test b ≡ false → list_any test (a ++ b) ≡ false
any_both test [] b h k = k
any_both test (t ∷ a) b h k = by (test t) h (any_both test a b)
  where
    by : (v : Bool) → v || list_any test a ≡ false → (list_any test a ≡ false → list_any test b ≡ false → list_any test (a ++ b) ≡ false) → v || list_any test (a ++ b) ≡ false
    by true h more = cc
    by false h more = more h k

no_other : (a b : Bool) → b ≡ false → (a && b) || false ≡ false
no_other true b e = ap (λ v. v || false) e
no_other false b e = refl

node_next : (node b : ℕ) (urids : List (List ℕ)) (row : ℕ × Prop) (rows : List Triple) → IsNode node b rows → IsNode node (suc b) (rows ++ property_rows node b urids row)
node_next node b urids row rows is = record {
  less = omega (arith, is.less);
  fresh = λ m most.
      own_both rows (property_rows node b urids row) [] [] (Blank m) (is.fresh m (omega (arith, most)))
      (own_property m node b urids row (λ e. let less = is.less in omega (arith, less, e, most)) (λ e. omega (arith, e, most)));
  apart = λ m p most.
      ap (list_any (says p (Blank m))) (own_both rows (property_rows node b urids row) (own (Blank node) rows) (key_row node b urids row ∷ []) (Blank node) refl (own_key node b urids row is.less))
      ∙ any_both (says p (Blank m)) (own (Blank node) rows) (key_row node b urids row ∷ []) (is.apart m p (omega (arith, most)))
      (no_other (same_term p (Iri (row_uri urids row))) (same_term (Blank m) (Blank b)) (blank_other m b (λ e. omega (arith, e, most))));
}

property_read : (place : Places) (at : ℕ) (more : More) (urids : List (List ℕ)) (row : ℕ × Prop) (base : List ℕ) (node b : ℕ) (rows : List Triple) (r : Result State Fault) → IsWritable urids row → IsNode node b rows
    → length rows + 4 ≤ MOST_ROWS → more_of more 1 (Blank node) (state base (suc b) (rows ++ property_rows node b urids row)) ≡ r
    → predicates_of (predicates (predicate (full (leaf at (angle (row_uri urids row))))) (one (value_tree place urids row)) more) 1 (Blank node) (state base b rows) ≡ r
property_read place at more urids row base node b rows r is held room rest =
    one_more (predicate (full (leaf at (angle (row_uri urids row))))) (value_tree place urids row) more 1 (Blank node) (Iri (row_uri urids row)) (Blank b) (state base b rows)
    (state base (suc b) (rows ++ value_rows b urids row)) (state base (suc b) (rows ++ property_rows node b urids row)) r
    (iri_verb base b rows at (row_uri urids row) (self_of urids row.0 is.key))
    (value_read place urids row base b rows is (held.fresh b (omega arith)) (omega (arith, room)))
    (added base (suc b) (rows ++ value_rows b urids row) (place 9) (key_row node b urids row)
    (no_row (rows ++ value_rows b urids row) (own (Blank node) rows) (Blank node) (Iri (row_uri urids row)) (Blank b)
    (own_both rows (value_rows b urids row) (own (Blank node) rows) [] (Blank node) refl (value_other (Blank node) b urids row (blank_other node b (λ e. let less = held.less in omega (arith, less, e)))) ∙ append-nil (own (Blank node) rows))
    (held.apart b (Iri (row_uri urids row)) (omega arith)))
    (omega (arith, room, length-append rows (value_rows b urids row)))
    ∙ ap (λ l. Ok (state base (suc b) l)) (append_assoc rows (value_rows b urids row) (key_row node b urids row ∷ [])))
    rest

pub more_read : (place : Places) (urids : List (List ℕ)) (rest : List (ℕ × Prop)) (base : List ℕ) (node b : ℕ) (rows : List Triple) → AllByRecursion (IsWritable urids) rest → IsNode node b rows
    → length rows + 4 * length rest ≤ MOST_ROWS → more_of (more_tree place urids rest) 1 (Blank node) (state base b rows) ≡ Ok (state base (blanks_after b rest) (rows ++ properties_rows node b urids rest))
more_read place urids [] base node b rows all held room = ap (λ l. Ok (state base b l)) (sym (append-nil rows))
more_read place urids (row ∷ rest) base node b rows all held room =
    property_read (shift 2 place) (place 1) (more_tree (shift 12 place) urids rest) urids row base node b rows (Ok (state base (blanks_after (suc b) rest) (rows ++ properties_rows node b urids (row ∷ rest)))) all.0 held
    (omega (arith, room))
    (more_read (shift 12 place) urids rest base node (suc b) (rows ++ property_rows node b urids row) all.1 (node_next node b urids row rows held)
    (omega (arith, room, length-append rows (property_rows node b urids row)))
    ∙ ap (λ l. Ok (state base (blanks_after (suc b) rest) l)) (append_assoc rows (property_rows node b urids row) (properties_rows node (suc b) urids rest)))

pub node_read : (place : Places) (urids : List (List ℕ)) (rest : List (ℕ × Prop)) (base : List ℕ) (b : ℕ) (rows : List Triple) → AllByRecursion (IsWritable urids) rest
    → ((m : ℕ) → b ≤ m → own (Blank m) rows ≡ []) → length rows + 4 * length rest ≤ MOST_ROWS
    → object_of (node_tree place urids rest) 0 (state base b rows) ≡ Ok (read (Blank b) (state base (blanks_after (suc b) rest) (rows ++ properties_rows b (suc b) urids rest)))
node_read place urids [] base b rows all fresh room = ap (λ l. Ok (read (Blank b) (state base (suc b) l))) (sym (append-nil rows))
node_read place urids (row ∷ rest) base b rows all fresh room =
    let held : IsNode b (suc b) rows = record {
      less = omega arith;
      fresh = λ m most. fresh m (omega (arith, most));
      apart = λ m p most. ap (list_any (says p (Blank m))) (fresh b (omega arith));
    } in
    bind (predicates_of (properties_tree (shift 1 place) urids row rest) 1 (Blank b) (state base (suc b) rows)) (λ after. Ok (read (Blank b) after))
    (state base (blanks_after (suc b) (row ∷ rest)) (rows ++ properties_rows b (suc b) urids (row ∷ rest)))
    (Ok (read (Blank b) (state base (blanks_after (suc b) (row ∷ rest)) (rows ++ properties_rows b (suc b) urids (row ∷ rest)))))
    (property_read (shift 2 place) (place 1) (more_tree (shift 12 place) urids rest) urids row base b (suc b) rows
    (Ok (state base (blanks_after (suc b) (row ∷ rest)) (rows ++ properties_rows b (suc b) urids (row ∷ rest)))) all.0 held
    (omega (arith, room))
    (more_read (shift 12 place) urids rest base b (suc (suc b)) (rows ++ property_rows b (suc b) urids row) all.1 (node_next b (suc b) urids row rows held)
    (omega (arith, room, length-append rows (property_rows b (suc b) urids row)))
    ∙ ap (λ l. Ok (state base (blanks_after (suc b) (row ∷ rest)) l)) (append_assoc rows (property_rows b (suc b) urids row) (properties_rows b (suc (suc b)) urids rest))))
    refl
