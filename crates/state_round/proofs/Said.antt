-- The document that a state file is, and its triples.
use Rattle.std.proofs.Common.{◌≡◌, ◌⊎◌, inl, inr, ℕ, suc, ◌+◌, ◌*◌, ◌^◌, ◌<◌, ◌≤◌, Bool, true, false, List, [], ◌∷◌, ◌++◌, length, codes, None, Ok, refl, sym, ap, ◌∙◌, arith, append_assoc, append-nil, length-append}
use Rattle.std.specs.List.{AllByRecursion}
use Rattle.std.specs.Str.{chars, bytes_eq}
use Rattle.std.proofs.lemmas.Slice.Eq.{bytes_eq-Decides}
use Rattle.state_file.specs.declared.saved.Saved.{Saved}
use Rattle.state_store.specs.declared.prop.Prop.{Prop}
use Rattle.triple_store.specs.Triples.{same_term}
use Rattle.triple_store.specs.declared.fault.TheConstants.{MOST_ROWS}
use Rattle.triple_store.specs.declared.term.Term.{Term}
use Rattle.triple_store.specs.declared.term.Term.TheVariants.{Iri, Blank, Literal}
use Rattle.triple_store.specs.declared.term.Triple.{Triple}
use Rattle.turtle_grammar.specs.Tree.Name.{full, prefixed}
use Rattle.turtle_grammar.specs.Tree.Quoting.{double}
use Rattle.turtle_grammar.specs.Tree.Suffix.{nothing}
use Rattle.turtle_grammar.specs.Tree.Verb.{predicate, is_a}
use Rattle.turtle_grammar.specs.Tree.Object.{named, quoted}
use Rattle.turtle_grammar.specs.Tree.More.{done, next}
use Rattle.turtle_document.specs.Meaning.{State, read, bound, absolute, verb_of, object_of, object_end, predicates_of, statement_of, document_of, beginning}
use Rattle.vocabulary.specs.Words.{iri_of}
use Rattle.vocabulary.specs.declared.word.Word.TheVariants.{RdfType, StateState, FxSaved, FxName, FxPlugin, XsdString}
use Rattle.state_round.specs.RoundTrip.{IsPlain, IsSelf, IsWritable, IsSaved, triples_for}
use Rattle.state_round.proofs.Words.{angle, quote, subject_text, in_file, saved_words, state_namespace, fx_namespace}
use Rattle.state_round.proofs.Tree.{Places, shift, after, leaf, node_tree, state_tree, plugin_tree, name_tree, class_tree, saved_tree, states_tree, first_tree, second_tree, file_tree}
use Rattle.state_round.proofs.Values.{absolute_self, absolute_subject, subject_iri, subject_same, state_self, fx_self}
use Rattle.state_round.proofs.Order.{all_in_file, length_in_file}
use Rattle.state_round.proofs.Rows.{triple, term_of, properties_rows, blanks_after, rises, head_rows, node_row, saved_rows, subject_of, states_rows, own, own_push, own_past, own_both, own-next, no_row, iri_properties, blank_properties}
use Rattle.state_round.proofs.Meant.{bind, state, added, one_more, row_read, iri_object, text_object, node_read}
use lib.Utf8.{encode}

-- ---- words

state_verb : (base : List ℕ) (b : ℕ) (rows : List Triple) (at : ℕ) → verb_of (predicate (prefixed (leaf at (codes "state:state")))) (state base b rows) ≡ Ok (term_of StateState)
unfolding iri_of chars encode
state_verb base b rows at = refl

plugin_verb : (base : List ℕ) (b : ℕ) (rows : List Triple) (at : ℕ) → verb_of (predicate (prefixed (leaf at (codes "fx:plugin")))) (state base b rows) ≡ Ok (term_of FxPlugin)
unfolding iri_of chars encode
plugin_verb base b rows at = refl

name_verb : (base : List ℕ) (b : ℕ) (rows : List Triple) (at : ℕ) → verb_of (predicate (prefixed (leaf at (codes "fx:name")))) (state base b rows) ≡ Ok (term_of FxName)
unfolding iri_of chars encode
name_verb base b rows at = refl

class_object : (base : List ℕ) (b : ℕ) (rows : List Triple) (at : ℕ) → object_of (named (prefixed (leaf at (codes "fx:Saved")))) 0 (state base b rows) ≡ Ok (read (term_of FxSaved) (state base b rows))
unfolding iri_of chars encode
class_object base b rows at = refl

-- ---- one state

length_properties : (node b : ℕ) (urids : List (List ℕ)) (rest : List (ℕ × Prop)) → length (properties_rows node b urids rest) ≡ 4 * length rest
length_properties node b urids [] = refl
length_properties node b urids (row ∷ rest) = let more = length_properties node (suc b) urids rest in omega (arith, more)

abbrev pub class_row : Term → Triple
class_row subject = triple subject (term_of RdfType) (term_of FxSaved)

abbrev pub name_row : Term → Saved → Triple
name_row subject saved = triple subject (term_of FxName) (Literal saved.name (iri_of XsdString) [])

abbrev pub plugin_row : Term → Saved → Triple
plugin_row subject saved = triple subject (term_of FxPlugin) (Iri saved.uri)

-- no row of a number from b on
abbrev pub IsFresh : ℕ → List Triple → Type 0
IsFresh b rows = (m : ℕ) → b ≤ m → own (Blank m) rows ≡ []

fresh_past : (b : ℕ) (rows : List Triple) (iri : List ℕ) (p o : Term) → IsFresh b rows → IsFresh b (rows ++ triple (Iri iri) p o ∷ [])
fresh_past b rows iri p o fresh m most = own_past rows [] (Blank m) (triple (Iri iri) p o) (fresh m most) refl

abbrev pub tail_rows : Term → ℕ → List (List ℕ) → List (ℕ × Prop) → List Triple
tail_rows subject b urids rest = properties_rows b (suc b) urids rest ++ node_row subject b ∷ []

state_read : (place : Places) (urids : List (List ℕ)) (saved : Saved) (rest : List (ℕ × Prop)) (base iri : List ℕ) (b : ℕ) (rows : List Triple) → AllByRecursion (IsWritable urids) rest → IsFresh b rows
    → own (Iri iri) rows ≡ class_row (Iri iri) ∷ name_row (Iri iri) saved ∷ plugin_row (Iri iri) saved ∷ [] → length rows + (1 + 4 * length rest) ≤ MOST_ROWS
    → predicates_of (state_tree place urids rest) 0 (Iri iri) (state base b rows) ≡ Ok (state base (blanks_after (suc b) rest) (rows ++ tail_rows (Iri iri) b urids rest))
unfolding iri_of
state_read place urids saved rest base iri b rows all fresh held room =
    let own_inside : own (Iri iri) (rows ++ properties_rows b (suc b) urids rest) ≡ class_row (Iri iri) ∷ name_row (Iri iri) saved ∷ plugin_row (Iri iri) saved ∷ [] =
    own_both rows (properties_rows b (suc b) urids rest) (class_row (Iri iri) ∷ name_row (Iri iri) saved ∷ plugin_row (Iri iri) saved ∷ []) [] (Iri iri) held (iri_properties iri b (suc b) urids rest) in
    one_more (predicate (prefixed (leaf (place 10) (codes "state:state")))) (node_tree (shift 11 place) urids rest) done 0 (Iri iri) (term_of StateState) (Blank b) (state base b rows)
    (state base (blanks_after (suc b) rest) (rows ++ properties_rows b (suc b) urids rest)) (state base (blanks_after (suc b) rest) (rows ++ tail_rows (Iri iri) b urids rest))
    (Ok (state base (blanks_after (suc b) rest) (rows ++ tail_rows (Iri iri) b urids rest)))
    (state_verb base b rows (place 10))
    (node_read (shift 11 place) urids rest base b rows all fresh (omega (arith, room)))
    (added base (blanks_after (suc b) rest) (rows ++ properties_rows b (suc b) urids rest) (object_end (node_tree (shift 11 place) urids rest)) (node_row (Iri iri) b)
    (no_row (rows ++ properties_rows b (suc b) urids rest) (class_row (Iri iri) ∷ name_row (Iri iri) saved ∷ plugin_row (Iri iri) saved ∷ []) (Iri iri) (term_of StateState) (Blank b) own_inside refl)
    (omega (arith, room, length_properties b (suc b) urids rest, length-append rows (properties_rows b (suc b) urids rest)))
    ∙ ap (λ l. Ok (state base (blanks_after (suc b) rest) l)) (append_assoc rows (properties_rows b (suc b) urids rest) (node_row (Iri iri) b ∷ [])))
    refl

plugin_read : (place : Places) (urids : List (List ℕ)) (saved : Saved) (rest : List (ℕ × Prop)) (base iri : List ℕ) (b : ℕ) (rows : List Triple) → AllByRecursion (IsWritable urids) rest → IsSelf saved.uri → IsFresh b rows
    → own (Iri iri) rows ≡ class_row (Iri iri) ∷ name_row (Iri iri) saved ∷ [] → length rows + (2 + 4 * length rest) ≤ MOST_ROWS
    → predicates_of (plugin_tree place urids saved rest) 0 (Iri iri) (state base b rows) ≡ Ok (state base (blanks_after (suc b) rest) (rows ++ plugin_row (Iri iri) saved ∷ tail_rows (Iri iri) b urids rest))
unfolding iri_of
plugin_read place urids saved rest base iri b rows all is fresh held room =
    row_read (predicate (prefixed (leaf (place 7) (codes "fx:plugin")))) (named (full (leaf (place 8) (angle saved.uri)))) (next (leaf (place 9) (codes ";")) (state_tree place urids rest)) 0 (plugin_row (Iri iri) saved) base b rows
    (Ok (state base (blanks_after (suc b) rest) (rows ++ plugin_row (Iri iri) saved ∷ tail_rows (Iri iri) b urids rest)))
    (plugin_verb base b rows (place 7)) (iri_object base b 0 rows (place 8) saved.uri is)
    (no_row rows (class_row (Iri iri) ∷ name_row (Iri iri) saved ∷ []) (Iri iri) (term_of FxPlugin) (Iri saved.uri) held refl) (omega (arith, room))
    (state_read place urids saved rest base iri b (rows ++ plugin_row (Iri iri) saved ∷ []) all (fresh_past b rows iri (term_of FxPlugin) (Iri saved.uri) fresh)
    (own_push rows (class_row (Iri iri) ∷ name_row (Iri iri) saved ∷ []) (Iri iri) (plugin_row (Iri iri) saved) held refl) (omega (arith, room, length-append rows (plugin_row (Iri iri) saved ∷ [])))
    ∙ ap (λ l. Ok (state base (blanks_after (suc b) rest) l)) (append_assoc rows (plugin_row (Iri iri) saved ∷ []) (tail_rows (Iri iri) b urids rest)))

name_read : (place : Places) (urids : List (List ℕ)) (saved : Saved) (rest : List (ℕ × Prop)) (base iri : List ℕ) (b : ℕ) (rows : List Triple) → AllByRecursion (IsWritable urids) rest → IsPlain saved.name → IsSelf saved.uri
    → IsFresh b rows → own (Iri iri) rows ≡ class_row (Iri iri) ∷ [] → length rows + (3 + 4 * length rest) ≤ MOST_ROWS
    → predicates_of (name_tree place urids saved rest) 0 (Iri iri) (state base b rows)
    ≡ Ok (state base (blanks_after (suc b) rest) (rows ++ name_row (Iri iri) saved ∷ plugin_row (Iri iri) saved ∷ tail_rows (Iri iri) b urids rest))
unfolding iri_of
name_read place urids saved rest base iri b rows all plain is fresh held room =
    row_read (predicate (prefixed (leaf (place 4) (codes "fx:name")))) (quoted double (leaf (place 5) (quote saved.name)) nothing) (next (leaf (place 6) (codes ";")) (plugin_tree place urids saved rest)) 0 (name_row (Iri iri) saved) base b rows
    (Ok (state base (blanks_after (suc b) rest) (rows ++ name_row (Iri iri) saved ∷ plugin_row (Iri iri) saved ∷ tail_rows (Iri iri) b urids rest)))
    (name_verb base b rows (place 4)) (text_object base b 0 rows (place 5) saved.name plain)
    (no_row rows (class_row (Iri iri) ∷ []) (Iri iri) (term_of FxName) (Literal saved.name (iri_of XsdString) []) held refl) (omega (arith, room))
    (plugin_read place urids saved rest base iri b (rows ++ name_row (Iri iri) saved ∷ []) all is (fresh_past b rows iri (term_of FxName) (Literal saved.name (iri_of XsdString) []) fresh)
    (own_push rows (class_row (Iri iri) ∷ []) (Iri iri) (name_row (Iri iri) saved) held refl) (omega (arith, room, length-append rows (name_row (Iri iri) saved ∷ [])))
    ∙ ap (λ l. Ok (state base (blanks_after (suc b) rest) l)) (append_assoc rows (name_row (Iri iri) saved ∷ []) (plugin_row (Iri iri) saved ∷ tail_rows (Iri iri) b urids rest)))

abbrev pub block : Term → ℕ → List (List ℕ) → Saved → List (ℕ × Prop) → List Triple
block subject b urids saved rest = head_rows subject saved ++ tail_rows subject b urids rest

class_read : (place : Places) (urids : List (List ℕ)) (saved : Saved) (rest : List (ℕ × Prop)) (base iri : List ℕ) (b : ℕ) (rows : List Triple) → AllByRecursion (IsWritable urids) rest → IsPlain saved.name → IsSelf saved.uri
    → IsFresh b rows → own (Iri iri) rows ≡ [] → length rows + (4 + 4 * length rest) ≤ MOST_ROWS
    → predicates_of (class_tree place urids saved rest) 0 (Iri iri) (state base b rows) ≡ Ok (state base (blanks_after (suc b) rest) (rows ++ block (Iri iri) b urids saved rest))
class_read place urids saved rest base iri b rows all plain is fresh held room =
    row_read (is_a (leaf (place 1) (codes "a"))) (named (prefixed (leaf (place 2) (codes "fx:Saved")))) (next (leaf (place 3) (codes ";")) (name_tree place urids saved rest)) 0 (class_row (Iri iri)) base b rows
    (Ok (state base (blanks_after (suc b) rest) (rows ++ block (Iri iri) b urids saved rest)))
    refl (class_object base b rows (place 2))
    (no_row rows [] (Iri iri) (term_of RdfType) (term_of FxSaved) held refl) (omega (arith, room))
    (name_read place urids saved rest base iri b (rows ++ class_row (Iri iri) ∷ []) all plain is (fresh_past b rows iri (term_of RdfType) (term_of FxSaved) fresh)
    (own_push rows [] (Iri iri) (class_row (Iri iri)) held refl) (omega (arith, room, length-append rows (class_row (Iri iri) ∷ [])))
    ∙ ap (λ l. Ok (state base (blanks_after (suc b) rest) l)) (append_assoc rows (class_row (Iri iri) ∷ []) (name_row (Iri iri) saved ∷ plugin_row (Iri iri) saved ∷ tail_rows (Iri iri) b urids rest)))

-- ---- all states

-- no row of a number from b on, and none of a state from a number on
pub record IsKnown (base : List ℕ) (number b : ℕ) (rows : List Triple) : Type 0 where
  pub fresh : IsFresh b rows
  pub new : (m : ℕ) → number ≤ m → m < 2 ^ 64 → own (subject_of base m) rows ≡ []

pub subject_other : (base : List ℕ) (m n : ℕ) → m < 2 ^ 64 → n < 2 ^ 64 → (m ≡ n → ⊥) → same_term (subject_of base m) (subject_of base n) ≡ false
subject_other base m n low less apart = by (bytes_eq (subject_iri base m) (subject_iri base n)) refl
  where
    by : (b : Bool) → bytes_eq (subject_iri base m) (subject_iri base n) ≡ b → bytes_eq (subject_iri base m) (subject_iri base n) ≡ false
    by true e = absurd (apart (subject_same base m n low less ((bytes_eq-Decides (subject_iri base m) (subject_iri base n)).0 e)))
    by false e = e

pub block_blank : (m : ℕ) (iri : List ℕ) (b : ℕ) (urids : List (List ℕ)) (saved : Saved) (rest : List (ℕ × Prop)) → (m < b) ⊎ (blanks_after (suc b) rest ≤ m) → own (Blank m) (block (Iri iri) b urids saved rest) ≡ []
block_blank m iri b urids saved rest beside =
    own_both (properties_rows b (suc b) urids rest) (node_row (Iri iri) b ∷ []) [] [] (Blank m) (blank_properties m b (suc b) urids rest (apart beside) (wider beside)) refl
  where
    apart : (m < b) ⊎ (blanks_after (suc b) rest ≤ m) → m ≡ b → ⊥
    apart (inl less) e = omega (arith, less, e)
    apart (inr most) e = let more = rises (suc b) rest in omega (arith, most, e, more)

    wider : (m < b) ⊎ (blanks_after (suc b) rest ≤ m) → (m < suc b) ⊎ (blanks_after (suc b) rest ≤ m)
    wider (inl less) = inl (omega (arith, less))
    wider (inr most) = inr most

pub block_other : (iri other : List ℕ) (b : ℕ) (urids : List (List ℕ)) (saved : Saved) (rest : List (ℕ × Prop)) → same_term (Iri other) (Iri iri) ≡ false → own (Iri other) (block (Iri iri) b urids saved rest) ≡ []
block_other iri other b urids saved rest e =
    own-next (Iri other) (class_row (Iri iri)) (name_row (Iri iri) saved ∷ plugin_row (Iri iri) saved ∷ tail_rows (Iri iri) b urids rest) e
    ∙ own-next (Iri other) (name_row (Iri iri) saved) (plugin_row (Iri iri) saved ∷ tail_rows (Iri iri) b urids rest) e
    ∙ own-next (Iri other) (plugin_row (Iri iri) saved) (tail_rows (Iri iri) b urids rest) e
    ∙ own_both (properties_rows b (suc b) urids rest) (node_row (Iri iri) b ∷ []) [] [] (Iri other) (iri_properties other b (suc b) urids rest) (own-next (Iri other) (node_row (Iri iri) b) [] e)

pub known_next : (base : List ℕ) (number b : ℕ) (urids : List (List ℕ)) (saved : Saved) (rest : List (ℕ × Prop)) (rows : List Triple) → number < 2 ^ 64 → IsKnown base number b rows
    → IsKnown base (number + 1) (blanks_after (suc b) rest) (rows ++ block (subject_of base number) b urids saved rest)
known_next base number b urids saved rest rows low known = record {
  fresh = λ m most.
      own_both rows (block (subject_of base number) b urids saved rest) [] [] (Blank m) (known.fresh m (let more = rises (suc b) rest in omega (arith, most, more)))
      (block_blank m (subject_iri base number) b urids saved rest (inr most));
  new = λ m more less.
      own_both rows (block (subject_of base number) b urids saved rest) [] [] (subject_of base m) (known.new m (omega (arith, more)) less)
      (block_other (subject_iri base number) (subject_iri base m) b urids saved rest (subject_other base m number less low (λ e. omega (arith, more, e))));
}

-- the next number after all states
abbrev pub last_blank : ℕ → List (List ℕ) → List Saved → ℕ
last_blank b urids [] = b
last_blank b urids (saved ∷ saves) = last_blank (blanks_after (suc b) (in_file urids saved.props)) urids saves

saved_read : (place : Places) (urids : List (List ℕ)) (saved : Saved) (base : List ℕ) (number b : ℕ) (rows : List Triple) → IsSaved urids saved → number < 2 ^ 64 → IsKnown base number b rows
    → length rows + (4 + 4 * length saved.props) ≤ MOST_ROWS
    → statement_of (saved_tree place urids number saved (in_file urids saved.props)) (state base b rows)
    ≡ Ok (state base (blanks_after (suc b) (in_file urids saved.props)) (rows ++ saved_rows (subject_of base number) b urids saved))
saved_read place urids saved base number b rows is low known room =
    bind (object_of (named (full (leaf (place 0) (angle (subject_text number))))) 0 (state base b rows)) (λ s. predicates_of (class_tree place urids saved (in_file urids saved.props)) 0 s.term s.state)
    (read (subject_of base number) (state base b rows)) (Ok (state base (blanks_after (suc b) (in_file urids saved.props)) (rows ++ saved_rows (subject_of base number) b urids saved)))
    (bind (absolute base (leaf (place 0) (angle (subject_text number)))) (λ iri. Ok (read (Iri iri) (state base b rows))) (subject_iri base number) (Ok (read (subject_of base number) (state base b rows)))
    (absolute_subject base number (place 0) low) refl)
    (class_read place urids saved (in_file urids saved.props) base (subject_iri base number) b rows (all_in_file (IsWritable urids) urids saved.props is.rows) is.name is.uri known.fresh
    (known.new number (omega arith) low) (let same = length_in_file urids saved.props in omega (arith, room, same)))

length_block : (subject : Term) (b : ℕ) (urids : List (List ℕ)) (saved : Saved) (rest : List (ℕ × Prop)) → length (block subject b urids saved rest) ≡ 4 + 4 * length rest
length_block subject b urids saved rest =
    omega (arith, length_properties b (suc b) urids rest, length-append (properties_rows b (suc b) urids rest) (node_row subject b ∷ []))

states_read : (place : Places) (urids : List (List ℕ)) (saves : List Saved) (base : List ℕ) (number b : ℕ) (rows : List Triple) → AllByRecursion (IsSaved urids) saves → number + length saves < 2 ^ 64 → IsKnown base number b rows
    → length rows + triples_for saves ≤ MOST_ROWS
    → document_of (states_tree place urids number saves) (state base b rows) ≡ Ok (state base (last_blank b urids saves) (rows ++ states_rows base number b urids saves))
states_read place urids [] base number b rows all low known room = ap (λ l. Ok (state base b l)) (sym (append-nil rows))
states_read place urids (saved ∷ saves) base number b rows all low known room =
    let size : length (saved_rows (subject_of base number) b urids saved) ≡ 4 + 4 * length saved.props =
    length_block (subject_of base number) b urids saved (in_file urids saved.props) ∙ ap (λ n. 4 + 4 * n) (length_in_file urids saved.props) in
    bind (statement_of (saved_tree place urids number saved (in_file urids saved.props)) (state base b rows)) (document_of (states_tree (after (saved_words urids number saved) place) urids (number + 1) saves))
    (state base (blanks_after (suc b) (in_file urids saved.props)) (rows ++ saved_rows (subject_of base number) b urids saved)) (Ok (state base (last_blank b urids (saved ∷ saves)) (rows ++ states_rows base number b urids (saved ∷ saves))))
    (saved_read place urids saved base number b rows all.0 (omega (arith, low)) known (omega (arith, room)))
    (states_read (after (saved_words urids number saved) place) urids saves base (number + 1) (blanks_after (suc b) (in_file urids saved.props)) (rows ++ saved_rows (subject_of base number) b urids saved) all.1 (omega (arith, low))
    (known_next base number b urids saved (in_file urids saved.props) rows (omega (arith, low)) known)
    (omega (arith, room, size, length-append rows (saved_rows (subject_of base number) b urids saved)))
    ∙ ap (λ l. Ok (state base (last_blank b urids (saved ∷ saves)) l))
    (append_assoc rows (saved_rows (subject_of base number) b urids saved) (states_rows base (number + 1) (blanks_after (suc b) (in_file urids saved.props)) urids saves)))

-- ---- the document

pub few : (saves : List Saved) → length saves ≤ triples_for saves
few [] = omega arith
few (saved ∷ saves) = let more = few saves in omega (arith, more)

-- with one prefix bound
abbrev half : List ℕ → State
half base = record { base = base; prefixes = bound (codes "state") state_namespace (λ name. None); labels = λ name. None; blanks = 0; rows = [] }

first_read : (place : Places) (base : List ℕ) → statement_of (first_tree place) (beginning base []) ≡ Ok (half base)
first_read place base =
    bind (absolute base (leaf (place 2) (angle state_namespace))) (λ value. Ok (record (half base) { prefixes = bound (codes "state") value (λ name. None) })) state_namespace (Ok (half base))
    (absolute_self base state_namespace (place 2) state_self) refl

second_read : (place : Places) (base : List ℕ) → statement_of (second_tree place) (half base) ≡ Ok (state base 0 [])
second_read place base =
    bind (absolute base (leaf (place 6) (angle fx_namespace))) (λ value. Ok (record (half base) { prefixes = bound (codes "fx") value (half base).prefixes })) fx_namespace (Ok (state base 0 []))
    (absolute_self base fx_namespace (place 6) fx_self) refl

pub file_read : (place : Places) (urids : List (List ℕ)) (saves : List Saved) (base : List ℕ) → AllByRecursion (IsSaved urids) saves → triples_for saves ≤ MOST_ROWS
    → document_of (file_tree place urids saves) (beginning base []) ≡ Ok (state base (last_blank 0 urids saves) (states_rows base 0 0 urids saves))
file_read place urids saves base all room =
    let read_all : document_of (states_tree (shift 8 place) urids 0 saves) (state base 0 []) ≡ Ok (state base (last_blank 0 urids saves) (states_rows base 0 0 urids saves)) =
    states_read (shift 8 place) urids saves base 0 0 [] all (let less = few saves in omega (arith, less, room)) (record { fresh = λ m most. refl; new = λ m more less. refl }) (omega (arith, room)) in
    bind (statement_of (first_tree place) (beginning base [])) (document_of (second_tree place ∷ states_tree (shift 8 place) urids 0 saves)) (half base) (Ok (state base (last_blank 0 urids saves) (states_rows base 0 0 urids saves)))
    (first_read place base)
    (bind (statement_of (second_tree place) (half base)) (document_of (states_tree (shift 8 place) urids 0 saves)) (state base 0 []) (Ok (state base (last_blank 0 urids saves) (states_rows base 0 0 urids saves)))
    (second_read place base) read_all)
