-- The parse tree of a state file, whose leaves are its words: leaf i stands at a place that is left open.
use Rattle.std.proofs.Common.{◌≡◌, ℕ, zero, suc, ◌+◌, ◌-◌, List, [], ◌∷◌, ◌++◌, length, take, drop, codes, refl, sym, ap, ◌∙◌, arith, append_assoc, length-append}
use Rattle.std.specs.Prelude.{decimal}
use Rattle.std.proofs.lemmas.List.{take_at, drop_at}
use Rattle.base64.specs.Engines.{standard}
use Rattle.base64.specs.GeneralPurpose.{encode_of}
use Rattle.state_file.specs.declared.saved.Saved.{Saved}
use Rattle.state_store.specs.declared.prop.Prop.{Prop}
use Rattle.turtle_grammar.specs.Tree.{Lexeme, Leaf, Subject, Object, Predicates, More, Statement, Document, object_tokens, more_tokens, statement_tokens, document_tokens}
use Rattle.turtle_grammar.specs.Tree.Name.{full, prefixed}
use Rattle.turtle_grammar.specs.Tree.Quoting.{double}
use Rattle.turtle_grammar.specs.Tree.Shorthand.{integer}
use Rattle.turtle_grammar.specs.Tree.Suffix.{nothing}
use Rattle.turtle_grammar.specs.Tree.Verb.{predicate, is_a}
use Rattle.turtle_grammar.specs.Tree.Object.{quoted, short, properties, anonymous, named}
use Rattle.turtle_grammar.specs.Tree.Predicates.{predicates}
use Rattle.turtle_grammar.specs.Tree.Objects.{one}
use Rattle.turtle_grammar.specs.Tree.More.{done, next}
use Rattle.turtle_grammar.specs.Tree.Triples.{about}
use Rattle.turtle_grammar.specs.Tree.Statement.{at_prefix, triples}
use Rattle.turtle_document.specs.Answer.{lexemes_of}
use Rattle.turtle_words.specs.Words.{Word, written, tokens_from}
use Rattle.state_round.proofs.Words.{angle, quote, row_uri, kind_uri, subject_text, semicolon, opening, closing, full_stop, subject_words, property_words, more_words, properties_words, head_words, foot_words, in_file, saved_words, states_words, state_namespace, fx_namespace, first_words, file_words}

-- ---- leaves by places

abbrev pub Places : Type 0
Places = ℕ → ℕ

-- the places after the first n
abbrev pub shift : ℕ → Places → Places
shift zero place = place
shift (suc n) place = shift n (λ i. place (suc i))

abbrev pub lexeme_at : ℕ → Word → Lexeme
lexeme_at at word = record { kind = word.kind; at = at; text = word.text }

-- words at places, before other lexemes
abbrev pub put : Places → List Word → List Lexeme → List Lexeme
put place [] rest = rest
put place (word ∷ words) rest = lexeme_at (place zero) word ∷ put (λ i. place (suc i)) words rest

abbrev pub after : List Word → Places → Places
after [] place = place
after (word ∷ words) place = after words (λ i. place (suc i))

pub put-append : (place : Places) (a b : List Word) (rest : List Lexeme) → put place (a ++ b) rest ≡ put place a (put (after a place) b rest)
put-append place [] b rest = refl
put-append place (word ∷ a) b rest = ap (λ l. lexeme_at (place zero) word ∷ l) (put-append (λ i. place (suc i)) a b rest)

pub after-append : (place : Places) (a b : List Word) → after (a ++ b) place ≡ after b (after a place)
after-append place [] b = refl
after-append place (word ∷ a) b = after-append (λ i. place (suc i)) a b

-- the places of a text's words
abbrev pub places_from : ℕ → List Word → Places
places_from at [] i = zero
places_from at (word ∷ words) zero = at + length word.space
places_from at (word ∷ words) (suc i) = places_from ((at + length word.space) + length word.text) words i

-- the text of a token in its place
own_text : (bytes front text back : List ℕ) (at upto : ℕ) → bytes ≡ front ++ (text ++ back) → at ≡ length front → upto ≡ at + length text → take (upto - at) (drop at bytes) ≡ text
own_text bytes front text back at upto whole there end =
    let size : upto - at ≡ length text = omega (arith, end) in
    ap (λ n. take n (drop at bytes)) size ∙ ap (λ l. take (length text) (drop at l)) whole ∙ ap (take (length text)) (drop_at front (text ++ back) at (sym there)) ∙ take_at text back (length text) refl

pub lexemes_are : (bytes before : List ℕ) (words : List Word) (more : List ℕ) (at : ℕ) → bytes ≡ before ++ written words more → at ≡ length before
    → lexemes_of bytes (tokens_from at words) ≡ put (places_from at words) words []
lexemes_are bytes before [] more at whole there = refl
lexemes_are bytes before (word ∷ words) more at whole there =
    let first : bytes ≡ (before ++ word.space) ++ (word.text ++ written words more) = whole ∙ sym (append_assoc before word.space (word.text ++ written words more)) in
    let start : at + length word.space ≡ length (before ++ word.space) = omega (arith, there, length-append before word.space) in
    let passed : bytes ≡ ((before ++ word.space) ++ word.text) ++ written words more = first ∙ sym (append_assoc (before ++ word.space) word.text (written words more)) in
    let upto : (at + length word.space) + length word.text ≡ length ((before ++ word.space) ++ word.text) = omega (arith, start, length-append (before ++ word.space) word.text) in
    let text : take (((at + length word.space) + length word.text) - (at + length word.space)) (drop (at + length word.space) bytes) ≡ word.text =
    own_text bytes (before ++ word.space) word.text (written words more) (at + length word.space) ((at + length word.space) + length word.text) first start refl in
    ap (λ l. record { kind = word.kind; at = at + length word.space; text = l } ∷ lexemes_of bytes (tokens_from ((at + length word.space) + length word.text) words)) text
    ∙ ap (λ l. lexeme_at (at + length word.space) word ∷ l) (lexemes_are bytes ((before ++ word.space) ++ word.text) words more ((at + length word.space) + length word.text) passed upto)

-- ---- trees

abbrev pub leaf : ℕ → List ℕ → Leaf
leaf at text = record { at = at; text = text }

-- the bytes, the flags and the type of a value, each with what follows
abbrev pub bytes_object : Places → ℕ × Prop → Object
bytes_object place row = quoted double (leaf (place 8) (quote (encode_of standard row.1.bytes))) nothing

abbrev pub bytes_tree : Places → ℕ × Prop → Predicates
bytes_tree place row = predicates (predicate (prefixed (leaf (place 7) (codes "fx:bytes")))) (one (bytes_object place row)) done

abbrev pub flags_object : Places → ℕ × Prop → Object
flags_object place row = short integer (leaf (place 5) (decimal row.1.flags))

abbrev pub flags_tree : Places → ℕ × Prop → Predicates
flags_tree place row = predicates (predicate (prefixed (leaf (place 4) (codes "fx:flags")))) (one (flags_object place row)) (next (leaf (place 6) (codes ";")) (bytes_tree place row))

abbrev pub type_object : Places → List (List ℕ) → ℕ × Prop → Object
type_object place urids row = named (full (leaf (place 2) (angle (kind_uri urids row))))

abbrev pub type_tree : Places → List (List ℕ) → ℕ × Prop → Predicates
type_tree place urids row = predicates (predicate (prefixed (leaf (place 1) (codes "fx:type")))) (one (type_object place urids row)) (next (leaf (place 3) (codes ";")) (flags_tree place row))

-- the value of a property
abbrev pub value_tree : Places → List (List ℕ) → ℕ × Prop → Object
value_tree place urids row = properties (leaf (place 0) (codes "[")) (type_tree place urids row) (leaf (place 9) (codes "]"))

abbrev pub more_tree : Places → List (List ℕ) → List (ℕ × Prop) → More
more_tree place urids [] = done
more_tree place urids (row ∷ rows) =
    next (leaf (place 0) (codes ";"))
    (predicates (predicate (full (leaf (place 1) (angle (row_uri urids row))))) (one (value_tree (shift 2 place) urids row)) (more_tree (shift 12 place) urids rows))

abbrev pub properties_tree : Places → List (List ℕ) → ℕ × Prop → List (ℕ × Prop) → Predicates
properties_tree place urids row rows = predicates (predicate (full (leaf (place 0) (angle (row_uri urids row))))) (one (value_tree (shift 1 place) urids row)) (more_tree (shift 11 place) urids rows)

-- the node of a state's properties
abbrev pub node_tree : Places → List (List ℕ) → List (ℕ × Prop) → Object
node_tree place urids [] = anonymous (leaf (place 0) (codes "[")) (leaf (place 1) (codes "]"))
node_tree place urids (row ∷ rows) =
    properties (leaf (place 0) (codes "[")) (properties_tree (shift 1 place) urids row rows) (leaf (after (more_words urids rows) (shift 12 place) 0) (codes "]"))

-- a state's statement, from its last property on backwards
abbrev pub state_tree : Places → List (List ℕ) → List (ℕ × Prop) → Predicates
state_tree place urids rows = predicates (predicate (prefixed (leaf (place 10) (codes "state:state")))) (one (node_tree (shift 11 place) urids rows)) done

abbrev pub plugin_tree : Places → List (List ℕ) → Saved → List (ℕ × Prop) → Predicates
plugin_tree place urids saved rows =
    predicates (predicate (prefixed (leaf (place 7) (codes "fx:plugin")))) (one (named (full (leaf (place 8) (angle saved.uri))))) (next (leaf (place 9) (codes ";")) (state_tree place urids rows))

abbrev pub name_tree : Places → List (List ℕ) → Saved → List (ℕ × Prop) → Predicates
name_tree place urids saved rows =
    predicates (predicate (prefixed (leaf (place 4) (codes "fx:name")))) (one (quoted double (leaf (place 5) (quote saved.name)) nothing)) (next (leaf (place 6) (codes ";")) (plugin_tree place urids saved rows))

abbrev pub class_tree : Places → List (List ℕ) → Saved → List (ℕ × Prop) → Predicates
class_tree place urids saved rows =
    predicates (is_a (leaf (place 1) (codes "a"))) (one (named (prefixed (leaf (place 2) (codes "fx:Saved"))))) (next (leaf (place 3) (codes ";")) (name_tree place urids saved rows))

abbrev pub saved_tree : Places → List (List ℕ) → ℕ → Saved → List (ℕ × Prop) → Statement
saved_tree place urids number saved rows =
    triples (about (Subject.named (full (leaf (place 0) (angle (subject_text number))))) (class_tree place urids saved rows)) (leaf (after (properties_words urids rows) (shift 12 place) 1) (codes "."))

abbrev pub states_tree : Places → List (List ℕ) → ℕ → List Saved → Document
states_tree place urids number [] = []
states_tree place urids number (saved ∷ saves) =
    saved_tree place urids number saved (in_file urids saved.props) ∷ states_tree (after (saved_words urids number saved) place) urids (number + 1) saves

abbrev pub first_tree : Places → Statement
first_tree place = at_prefix (place 0) (leaf (place 1) (codes "state:")) (leaf (place 2) (angle state_namespace)) (leaf (place 3) (codes "."))

abbrev pub second_tree : Places → Statement
second_tree place = at_prefix (place 4) (leaf (place 5) (codes "fx:")) (leaf (place 6) (angle fx_namespace)) (leaf (place 7) (codes "."))

abbrev pub file_tree : Places → List (List ℕ) → List Saved → Document
file_tree place urids saves = first_tree place ∷ second_tree place ∷ states_tree (shift 8 place) urids 0 saves

-- ---- their tokens

more_put : (place : Places) (urids : List (List ℕ)) (rows : List (ℕ × Prop)) (rest : List Lexeme) → more_tokens (more_tree place urids rows) rest ≡ put place (more_words urids rows) rest
more_put place urids [] rest = refl
more_put place urids (row ∷ rows) rest = ap (put place (semicolon ∷ property_words urids row)) (more_put (shift 12 place) urids rows rest)

node_put : (place : Places) (urids : List (List ℕ)) (rows : List (ℕ × Prop)) (rest : List Lexeme)
    → object_tokens (node_tree place urids rows) rest
    ≡ put place (opening ∷ []) (put (shift 1 place) (properties_words urids rows) (lexeme_at (after (properties_words urids rows) (shift 1 place) 0) closing ∷ rest))
node_put place urids [] rest = refl
node_put place urids (row ∷ rows) rest =
    ap (put place (opening ∷ property_words urids row)) (more_put (shift 12 place) urids rows (lexeme_at (after (more_words urids rows) (shift 12 place) 0) closing ∷ rest))

saved_put : (place : Places) (urids : List (List ℕ)) (number : ℕ) (saved : Saved) (rows : List (ℕ × Prop)) (rest : List Lexeme)
    → statement_tokens (saved_tree place urids number saved rows) rest ≡ put place (head_words number saved ++ (properties_words urids rows ++ foot_words)) rest
saved_put place urids number saved rows rest =
    ap (put place (subject_words number saved)) (node_put (shift 11 place) urids rows (lexeme_at (after (properties_words urids rows) (shift 12 place) 1) full_stop ∷ rest))
    ∙ ap (put place (head_words number saved)) (sym (put-append (shift 12 place) (properties_words urids rows) foot_words rest))

states_put : (place : Places) (urids : List (List ℕ)) (number : ℕ) (saves : List Saved) → document_tokens (states_tree place urids number saves) ≡ put place (states_words urids number saves) []
states_put place urids number [] = refl
states_put place urids number (saved ∷ saves) =
    saved_put place urids number saved (in_file urids saved.props) (document_tokens (states_tree (after (saved_words urids number saved) place) urids (number + 1) saves))
    ∙ ap (put place (saved_words urids number saved)) (states_put (after (saved_words urids number saved) place) urids (number + 1) saves)
    ∙ sym (put-append place (saved_words urids number saved) (states_words urids (number + 1) saves) [])

pub file_put : (place : Places) (urids : List (List ℕ)) (saves : List Saved) → document_tokens (file_tree place urids saves) ≡ put place (file_words urids saves) []
file_put place urids saves = ap (put place first_words) (states_put (shift 8 place) urids 0 saves)
