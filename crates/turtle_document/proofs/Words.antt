-- The first word of a directive: the moves at it are right.
use Rattle.std.proofs.Common.{◌≡◌, ℕ, Bool, true, false, if◌then◌else◌, List, [], ◌∷◌, length, Ok, codes, refl, sym, ap, ◌∙◌}
use Rattle.std.proofs.lemmas.Slice.Eq.{bytes_eq-Decides}
use Rattle.std.specs.Str.{bytes_eq}
use Rattle.turtle_grammar.specs.declared.token.TokenKind.{TokenKind}
use Rattle.turtle_grammar.specs.declared.token.TokenKind.TheVariants as kinds
use Rattle.turtle_grammar.specs.Tree.{Lexeme, Leaf, Subject, Document, lexeme, language_word, document_tokens}
use Rattle.turtle_grammar.specs.Tree.Name.{full}
use Rattle.turtle_grammar.specs.Tree.Triples.{about}
use Rattle.turtle_grammar.specs.Tree.Statement.{at_prefix, at_base, sparql_prefix, sparql_base, triples}
use Rattle.turtle_grammar.specs.Value.{prefix_of}
use Rattle.turtle_document.specs.Meaning.{State, bound, absolute, document_of}
use Rattle.turtle_document.specs.Machine.{config, at_directive}
use Rattle.turtle_document.specs.Machine.Move.{to, stuck}
use Rattle.turtle_document.specs.declared.expected.Hole.{Hole}
use Rattle.turtle_document.specs.declared.expected.Expected.{Expected}
use Rattle.turtle_document.specs.declared.expected.Expected.TheVariants as expect
use Rattle.turtle_document.proofs.Completion.{Completion, tokens_by, completed_by, Moves, IsRight}
use Rattle.turtle_document.proofs.Tools.{same_rest, same_leaf, no, bind_assoc}

-- the kind of a list's first token
abbrev pub kind_first : List Lexeme → TokenKind
kind_first [] = kinds.Dot
kind_first (t ∷ ts) = t.kind

-- `@prefix` is not `@base`
two_words : codes "@prefix" ≡ codes "@base" → ⊥
two_words e = let n = ap length e in cc

abbrev at_word : ℕ → List ℕ → Leaf
at_word at text = record { at = at; text = text }

-- the text of a word that a document begins with
word_text : (at : ℕ) (text : List ℕ) (leaf : Leaf) (ts rest : List Lexeme)
    → language_word at text ∷ ts ≡ lexeme kinds.LanguageTag leaf ∷ rest → text ≡ leaf.text
word_text at text leaf ts rest e =
    ap (λ (l : Leaf). l.text) (same_leaf kinds.LanguageTag kinds.LanguageTag (at_word at text) leaf ts rest e)

-- What a document is that begins with a token, in the partial trees of what has to come next.
abbrev Becomes : Document → Lexeme → List Lexeme → State → Expected → List Hole → Type 0
Becomes x t rest st next outer =
    document_tokens x ≡ t ∷ rest → (y : Completion next outer) × (rest ≡ tokens_by next outer y) × (document_of x st ≡ completed_by next outer y st)

at_prefix_word : (outer : List Hole) (st : State) (leaf : Leaf) → leaf.text ≡ codes "@prefix" → (x : Document) (rest : List Lexeme)
    → Becomes x (lexeme kinds.LanguageTag leaf) rest st (expect.Prefix true) outer
at_prefix_word outer st leaf h (at_prefix at namespace iri dot ∷ ds) rest e = (
  (namespace, iri, dot, ds),
  sym (same_rest (language_word at (codes "@prefix")) (lexeme kinds.LanguageTag leaf)
      (lexeme kinds.Namespace namespace ∷ lexeme kinds.Iri iri ∷ lexeme kinds.Dot dot ∷ document_tokens ds) rest e),
  bind_assoc (absolute st.base iri) (λ value. Ok (record st { prefixes = bound (prefix_of namespace.text) value st.prefixes })) (document_of ds),
)
at_prefix_word outer st leaf h (at_base at iri dot ∷ ds) rest e =
    absurd (two_words (sym h ∙ sym (word_text at (codes "@base") leaf (lexeme kinds.Iri iri ∷ lexeme kinds.Dot dot ∷ document_tokens ds) rest e)))
at_prefix_word outer st leaf h (triples (about (Subject.named (full l)) inner) dot ∷ ds) rest e = let k : kinds.Iri ≡ kinds.LanguageTag = ap kind_first e in absurd (cc)
at_prefix_word outer st leaf h x rest e = let k : kind_first (document_tokens x) ≡ kinds.LanguageTag = ap kind_first e in absurd (cc)

at_base_word : (outer : List Hole) (st : State) (leaf : Leaf) → leaf.text ≡ codes "@base" → (x : Document) (rest : List Lexeme)
    → Becomes x (lexeme kinds.LanguageTag leaf) rest st (expect.Base true) outer
at_base_word outer st leaf h (at_prefix at namespace iri dot ∷ ds) rest e =
    absurd (two_words (word_text at (codes "@prefix") leaf
    (lexeme kinds.Namespace namespace ∷ lexeme kinds.Iri iri ∷ lexeme kinds.Dot dot ∷ document_tokens ds) rest e ∙ h))
at_base_word outer st leaf h (at_base at iri dot ∷ ds) rest e = (
  (iri, dot, ds),
  sym (same_rest (language_word at (codes "@base")) (lexeme kinds.LanguageTag leaf)
      (lexeme kinds.Iri iri ∷ lexeme kinds.Dot dot ∷ document_tokens ds) rest e),
  bind_assoc (absolute st.base iri) (λ value. Ok (record st { base = value })) (document_of ds),
)
at_base_word outer st leaf h (triples (about (Subject.named (full l)) inner) dot ∷ ds) rest e = let k : kinds.Iri ≡ kinds.LanguageTag = ap kind_first e in absurd (cc)
at_base_word outer st leaf h x rest e = let k : kind_first (document_tokens x) ≡ kinds.LanguageTag = ap kind_first e in absurd (cc)

-- any other tag begins no statement
no_word : (leaf : Leaf) → (leaf.text ≡ codes "@prefix" → ⊥) → (leaf.text ≡ codes "@base" → ⊥) → (x : Document) (rest : List Lexeme)
    → document_tokens x ≡ lexeme kinds.LanguageTag leaf ∷ rest → ⊥
no_word leaf g h (at_prefix at namespace iri dot ∷ ds) rest e =
    g (sym (word_text at (codes "@prefix") leaf
    (lexeme kinds.Namespace namespace ∷ lexeme kinds.Iri iri ∷ lexeme kinds.Dot dot ∷ document_tokens ds) rest e))
no_word leaf g h (at_base at iri dot ∷ ds) rest e =
    h (sym (word_text at (codes "@base") leaf (lexeme kinds.Iri iri ∷ lexeme kinds.Dot dot ∷ document_tokens ds) rest e))
no_word leaf g h (triples (about (Subject.named (full l)) inner) dot ∷ ds) rest e = let k : kinds.Iri ≡ kinds.LanguageTag = ap kind_first e in (cc)
no_word leaf g h x rest e = let k : kind_first (document_tokens x) ≡ kinds.LanguageTag = ap kind_first e in (cc)

prefix_word_right : (outer : List Hole) (st : State) (leaf : Leaf) → leaf.text ≡ codes "@prefix"
    → Moves (config expect.Statement outer) (lexeme kinds.LanguageTag leaf) st (config (expect.Prefix true) outer) st
prefix_word_right outer st leaf h = record {
  build = λ y. (
    at_prefix leaf.at y.0 y.1 y.2 ∷ y.3,
    ap (λ (text : List ℕ). language_word leaf.at text ∷ lexeme kinds.Namespace y.0 ∷ lexeme kinds.Iri y.1 ∷ lexeme kinds.Dot y.2 ∷ document_tokens y.3) (sym h),
    bind_assoc (absolute st.base y.1) (λ value. Ok (record st { prefixes = bound (prefix_of y.0.text) value st.prefixes })) (document_of y.3),
  );
  split = at_prefix_word outer st leaf h;
}

base_word_right : (outer : List Hole) (st : State) (leaf : Leaf) → leaf.text ≡ codes "@base"
    → Moves (config expect.Statement outer) (lexeme kinds.LanguageTag leaf) st (config (expect.Base true) outer) st
base_word_right outer st leaf h = record {
  build = λ y. (
    at_base leaf.at y.0 y.1 ∷ y.2,
    ap (λ (text : List ℕ). language_word leaf.at text ∷ lexeme kinds.Iri y.0 ∷ lexeme kinds.Dot y.1 ∷ document_tokens y.2) (sym h),
    bind_assoc (absolute st.base y.0) (λ value. Ok (record st { base = value })) (document_of y.2),
  );
  split = at_base_word outer st leaf h;
}

second_word : (outer : List Hole) (st : State) (leaf : Leaf) (is_base : Bool) → bytes_eq leaf.text (codes "@base") ≡ is_base
    → (leaf.text ≡ codes "@prefix" → ⊥)
    → IsRight (config expect.Statement outer) (lexeme kinds.LanguageTag leaf) st (if is_base then to (config (expect.Base true) outer) st else stuck)
second_word outer st leaf true h g = base_word_right outer st leaf ((bytes_eq-Decides leaf.text (codes "@base")).0 h)
second_word outer st leaf false h g =
    no_word leaf g (λ same. no (sym h ∙ (bytes_eq-Decides leaf.text (codes "@base")).1 same))

first_word : (outer : List Hole) (st : State) (leaf : Leaf) (is_prefix : Bool) → bytes_eq leaf.text (codes "@prefix") ≡ is_prefix
    → IsRight (config expect.Statement outer) (lexeme kinds.LanguageTag leaf) st (
    if is_prefix then to (config (expect.Prefix true) outer) st else
    if bytes_eq leaf.text (codes "@base") then to (config (expect.Base true) outer) st else stuck)
first_word outer st leaf true h = prefix_word_right outer st leaf ((bytes_eq-Decides leaf.text (codes "@prefix")).0 h)
first_word outer st leaf false h =
    second_word outer st leaf (bytes_eq leaf.text (codes "@base")) refl
    (λ same. no (sym h ∙ (bytes_eq-Decides leaf.text (codes "@prefix")).1 same))

pub directive_right : (outer : List Hole) (leaf : Leaf) (st : State)
    → IsRight (config expect.Statement outer) (lexeme kinds.LanguageTag leaf) st (at_directive leaf.text outer st)
directive_right outer leaf st = first_word outer st leaf (bytes_eq leaf.text (codes "@prefix")) refl

at_sparql_prefix : (outer : List Hole) (st : State) (leaf : Leaf) (x : Document) (rest : List Lexeme)
    → Becomes x (lexeme kinds.Prefix leaf) rest st (expect.Prefix false) outer
at_sparql_prefix outer st leaf (sparql_prefix word namespace iri ∷ ds) rest e = (
  (namespace, iri, tt, ds),
  sym (same_rest (lexeme kinds.Prefix word) (lexeme kinds.Prefix leaf) (lexeme kinds.Namespace namespace ∷ lexeme kinds.Iri iri ∷ document_tokens ds) rest e),
  bind_assoc (absolute st.base iri) (λ value. Ok (record st { prefixes = bound (prefix_of namespace.text) value st.prefixes })) (document_of ds),
)
at_sparql_prefix outer st leaf (triples (about (Subject.named (full l)) inner) dot ∷ ds) rest e = let k : kinds.Iri ≡ kinds.Prefix = ap kind_first e in absurd (cc)
at_sparql_prefix outer st leaf x rest e = let k : kind_first (document_tokens x) ≡ kinds.Prefix = ap kind_first e in absurd (cc)

pub sparql_prefix_right : (outer : List Hole) (leaf : Leaf) (st : State)
    → Moves (config expect.Statement outer) (lexeme kinds.Prefix leaf) st (config (expect.Prefix false) outer) st
sparql_prefix_right outer leaf st = record {
  build = λ y. (
    sparql_prefix leaf y.0 y.1 ∷ y.3,
    refl,
    bind_assoc (absolute st.base y.1) (λ value. Ok (record st { prefixes = bound (prefix_of y.0.text) value st.prefixes })) (document_of y.3),
  );
  split = at_sparql_prefix outer st leaf;
}

at_sparql_base : (outer : List Hole) (st : State) (leaf : Leaf) (x : Document) (rest : List Lexeme)
    → Becomes x (lexeme kinds.Base leaf) rest st (expect.Base false) outer
at_sparql_base outer st leaf (sparql_base word iri ∷ ds) rest e = (
  (iri, tt, ds),
  sym (same_rest (lexeme kinds.Base word) (lexeme kinds.Base leaf) (lexeme kinds.Iri iri ∷ document_tokens ds) rest e),
  bind_assoc (absolute st.base iri) (λ value. Ok (record st { base = value })) (document_of ds),
)
at_sparql_base outer st leaf (triples (about (Subject.named (full l)) inner) dot ∷ ds) rest e = let k : kinds.Iri ≡ kinds.Base = ap kind_first e in absurd (cc)
at_sparql_base outer st leaf x rest e = let k : kind_first (document_tokens x) ≡ kinds.Base = ap kind_first e in absurd (cc)

pub sparql_base_right : (outer : List Hole) (leaf : Leaf) (st : State)
    → Moves (config expect.Statement outer) (lexeme kinds.Base leaf) st (config (expect.Base false) outer) st
sparql_base_right outer leaf st = record {
  build = λ y. (sparql_base leaf y.0 ∷ y.2, refl, bind_assoc (absolute st.base y.0) (λ value. Ok (record st { base = value })) (document_of y.2));
  split = at_sparql_base outer st leaf;
}
