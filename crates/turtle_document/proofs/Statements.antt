-- A statement's first token: the moves at it are right.
use Rattle.std.proofs.Common.{◌≡◌, ◌⊎◌, inl, inr, ℕ, Bool, true, false, List, [], ◌∷◌, Option, None, Some, Result, Ok, Err, refl, sym, ap, ◌∙◌}
use Rattle.triple_store.specs.declared.term.Term.{Term}
use Rattle.triple_store.specs.declared.term.Term.TheVariants as terms
use Rattle.turtle_grammar.specs.declared.token.TokenKind.{TokenKind}
use Rattle.turtle_grammar.specs.declared.token.TokenKind.TheVariants as kinds
use Rattle.turtle_grammar.specs.Tree.{Lexeme, Leaf, Name, Verb, Object, Items, Predicates, Objects, More, Subject, Document, lexeme, name_tokens, items_tokens, predicates_tokens, document_tokens}
use Rattle.turtle_grammar.specs.Tree.Name.{full, prefixed, bare}
use Rattle.turtle_grammar.specs.Tree.Triples.{about, alone, with_more}
use Rattle.turtle_grammar.specs.Tree.Statement.{at_prefix, at_base, sparql_prefix, sparql_base, triples}
use Rattle.turtle_document.specs.Meaning.{Fault, State, Read, ◌>>=◌, read, numbered, fresh, labelled, may_open, name_of, items_of, predicates_of, document_of}
use Rattle.turtle_document.specs.Machine.{config, on, at_statement}
use Rattle.turtle_document.specs.Machine.Move.{to}
use Rattle.turtle_document.specs.declared.expected.Hole.TheVariants as holes
use Rattle.turtle_document.specs.declared.expected.Chain.TheVariants as chains
use Rattle.turtle_document.specs.declared.expected.Expected.TheVariants as expect
use Rattle.turtle_document.proofs.Completion.{tokens_by, completed_by, Moves, IsRight}
use Rattle.turtle_document.proofs.Tools.{same_rest, same_leaf, no, bind_assoc}
use Rattle.turtle_document.proofs.Words.{kind_first, directive_right, sparql_prefix_right, sparql_base_right}

-- triples of a subject
abbrev Rest : Type 0
Rest = Predicates × Leaf × Document

abbrev saying : Subject → Rest → Document
saying subject y = triples (about subject y.0) y.1 ∷ y.2

abbrev rest_tokens : Rest → List Lexeme
rest_tokens y = predicates_tokens y.0 (lexeme kinds.Dot y.1 ∷ document_tokens y.2)

-- a list of predicates to stand after a subject
abbrev some_rest : Leaf → Rest
some_rest leaf = (Predicates.predicates (Verb.is_a leaf) (Objects.one (Object.label leaf)) More.done, leaf, [])

-- what a document is that begins with a subject of one token
abbrev IsSaying : TokenKind → Leaf → Subject → Type 0
IsSaying kind leaf subject =
    (x : Document) (rest : List Lexeme) → document_tokens x ≡ lexeme kind leaf ∷ rest
    → (y : Rest) × (x ≡ saying subject y) × (rest ≡ rest_tokens y)

full_first : (leaf : Leaf) → IsSaying kinds.Iri leaf (Subject.named (full leaf))
full_first leaf (triples (about (Subject.named (full l)) inner) dot ∷ ds) rest e =
    let after : List Lexeme = rest_tokens (inner, dot, ds) in (
      (inner, dot, ds),
      ap (λ (a : Leaf). saying (Subject.named (full a)) (inner, dot, ds)) (same_leaf kinds.Iri kinds.Iri l leaf after rest e),
      sym (same_rest (lexeme kinds.Iri l) (lexeme kinds.Iri leaf) after rest e),
    )
full_first leaf x rest e = let k : kind_first (document_tokens x) ≡ kinds.Iri = ap kind_first e in absurd (cc)

prefixed_first : (leaf : Leaf) → IsSaying kinds.PrefixedName leaf (Subject.named (prefixed leaf))
prefixed_first leaf (triples (about (Subject.named (prefixed l)) inner) dot ∷ ds) rest e =
    let after : List Lexeme = rest_tokens (inner, dot, ds) in (
      (inner, dot, ds),
      ap (λ (a : Leaf). saying (Subject.named (prefixed a)) (inner, dot, ds)) (same_leaf kinds.PrefixedName kinds.PrefixedName l leaf after rest e),
      sym (same_rest (lexeme kinds.PrefixedName l) (lexeme kinds.PrefixedName leaf) after rest e),
    )
prefixed_first leaf x rest e = let k : kind_first (document_tokens x) ≡ kinds.PrefixedName = ap kind_first e in absurd (cc)

bare_first : (leaf : Leaf) → IsSaying kinds.Namespace leaf (Subject.named (bare leaf))
bare_first leaf (triples (about (Subject.named (bare l)) inner) dot ∷ ds) rest e =
    let after : List Lexeme = rest_tokens (inner, dot, ds) in (
      (inner, dot, ds),
      ap (λ (a : Leaf). saying (Subject.named (bare a)) (inner, dot, ds)) (same_leaf kinds.Namespace kinds.Namespace l leaf after rest e),
      sym (same_rest (lexeme kinds.Namespace l) (lexeme kinds.Namespace leaf) after rest e),
    )
bare_first leaf x rest e = let k : kind_first (document_tokens x) ≡ kinds.Namespace = ap kind_first e in absurd (cc)

label_first : (leaf : Leaf) → IsSaying kinds.BlankLabel leaf (Subject.label leaf)
label_first leaf (triples (about (Subject.label l) inner) dot ∷ ds) rest e =
    let after : List Lexeme = rest_tokens (inner, dot, ds) in (
      (inner, dot, ds),
      ap (λ (a : Leaf). saying (Subject.label a) (inner, dot, ds)) (same_leaf kinds.BlankLabel kinds.BlankLabel l leaf after rest e),
      sym (same_rest (lexeme kinds.BlankLabel l) (lexeme kinds.BlankLabel leaf) after rest e),
    )
label_first leaf (triples (about (Subject.named (full l)) inner) dot ∷ ds) rest e = let k : kinds.Iri ≡ kinds.BlankLabel = ap kind_first e in absurd (cc)
label_first leaf x rest e = let k : kind_first (document_tokens x) ≡ kinds.BlankLabel = ap kind_first e in absurd (cc)

named_value : (name : Name) (y : Rest) (st : State) (r : Result (List ℕ) Fault) → name_of name st ≡ r
    → document_of (saying (Subject.named name) y) st ≡ r >>= (λ iri. predicates_of y.0 0 (terms.Iri iri) st >>= document_of y.2)
named_value name y st (Ok iri) h =
    ap (λ (r : Result (List ℕ) Fault). r >>= (λ iri. Ok (read (terms.Iri iri) st)) >>= (λ s. predicates_of y.0 0 s.term s.state) >>= document_of y.2) h
named_value name y st (Err f) h =
    ap (λ (r : Result (List ℕ) Fault). r >>= (λ iri. Ok (read (terms.Iri iri) st)) >>= (λ s. predicates_of y.0 0 s.term s.state) >>= document_of y.2) h

named_right : (kind : TokenKind) (leaf : Leaf) (name : Name) (st : State) (r : Result (List ℕ) Fault) → name_of name st ≡ r
    → ((ts : List Lexeme) → name_tokens name ts ≡ lexeme kind leaf ∷ ts) → IsSaying kind leaf (Subject.named name)
    → IsRight (config expect.Statement []) (lexeme kind leaf) st (on r (λ iri. to (config (expect.Verb (terms.Iri iri)) []) st))
named_right kind leaf name st (Ok iri) h first inverse = record {
  build = λ y. (saying (Subject.named name) y, first (rest_tokens y), named_value name y st (Ok iri) h);
  split = λ x rest e.
      let i = inverse x rest e in
      (i.0, i.2, ap (λ (d : Document). document_of d st) i.1 ∙ named_value name i.0 st (Ok iri) h);
}
named_right kind leaf name st (Err f) h first inverse = record {
  there = (saying (Subject.named name) (some_rest leaf), rest_tokens (some_rest leaf), first (rest_tokens (some_rest leaf)));
  each = λ x rest e.
      let i = inverse x rest e in
      ap (λ (d : Document). document_of d st) i.1 ∙ named_value name i.0 st (Err f) h;
}

label_right : (leaf : Leaf) (st : State)
    → Moves (config expect.Statement []) (lexeme kinds.BlankLabel leaf) st
    (config (expect.Verb (labelled leaf.text st).term) []) (labelled leaf.text st).state
label_right leaf st = record {
  build = λ y. (saying (Subject.label leaf) y, refl, refl);
  split = λ x rest e.
      let i = label_first leaf x rest e in
      (i.0, i.2, ap (λ (d : Document). document_of d st) i.1);
}

-- a collection as a subject, and what follows it
abbrev Collected : Type 0
Collected = Items × Leaf × Rest

round_first : (leaf : Leaf) (x : Document) (rest : List Lexeme) → document_tokens x ≡ lexeme kinds.OpenRound leaf ∷ rest
    → (y : Collected) × (x ≡ saying (Subject.collection leaf y.0 y.1) y.2)
    × (rest ≡ items_tokens y.0 (lexeme kinds.CloseRound y.1 ∷ rest_tokens y.2))
round_first leaf (triples (about (Subject.collection start items end) inner) dot ∷ ds) rest e =
    let after : List Lexeme = items_tokens items (lexeme kinds.CloseRound end ∷ rest_tokens (inner, dot, ds)) in (
      (items, end, (inner, dot, ds)),
      ap (λ (a : Leaf). saying (Subject.collection a items end) (inner, dot, ds)) (same_leaf kinds.OpenRound kinds.OpenRound start leaf after rest e),
      sym (same_rest (lexeme kinds.OpenRound start) (lexeme kinds.OpenRound leaf) after rest e),
    )
round_first leaf (triples (about (Subject.named (full l)) inner) dot ∷ ds) rest e = let k : kinds.Iri ≡ kinds.OpenRound = ap kind_first e in absurd (cc)
round_first leaf x rest e = let k : kind_first (document_tokens x) ≡ kinds.OpenRound = ap kind_first e in absurd (cc)

round_value : (leaf : Leaf) (y : Collected) (st : State) (r : Result State Fault) → may_open leaf.at 0 st ≡ r
    → document_of (saying (Subject.collection leaf y.0 y.1) y.2) st
    ≡ r >>= (λ here. items_of y.0 1 None y.1.at here >>= (λ list. predicates_of y.2.0 0 list.term list.state >>= document_of y.2.2))
round_value leaf y st (Ok here) h =
    ap (λ (r : Result State Fault). r >>= items_of y.0 1 None y.1.at >>= (λ s. predicates_of y.2.0 0 s.term s.state) >>= document_of y.2.2) h
    ∙ bind_assoc (items_of y.0 1 None y.1.at here) (λ (s : Read). predicates_of y.2.0 0 s.term s.state) (document_of y.2.2)
round_value leaf y st (Err f) h =
    ap (λ (r : Result State Fault). r >>= items_of y.0 1 None y.1.at >>= (λ s. predicates_of y.2.0 0 s.term s.state) >>= document_of y.2.2) h

round_right : (leaf : Leaf) (st : State) (r : Result State Fault) → may_open leaf.at 0 st ≡ r
    → IsRight (config expect.Statement []) (lexeme kinds.OpenRound leaf) st (on r (to (config (expect.Item chains.Empty) (holes.Subject ∷ []))))
round_right leaf st (Ok here) h = record {
  build = λ y. (saying (Subject.collection leaf y.0 y.1) y.2, refl, round_value leaf y st (Ok here) h);
  split = λ x rest e.
      let i = round_first leaf x rest e in
      (i.0, i.2, ap (λ (d : Document). document_of d st) i.1 ∙ round_value leaf i.0 st (Ok here) h);
}
round_right leaf st (Err f) h = record {
  there = (saying (Subject.collection leaf Items.none leaf) (some_rest leaf), lexeme kinds.CloseRound leaf ∷ rest_tokens (some_rest leaf), refl);
  each = λ x rest e.
      let i = round_first leaf x rest e in
      ap (λ (d : Document). document_of d st) i.1 ∙ round_value leaf i.0 st (Err f) h;
}

-- what a bracket as a subject may hold, and what may follow it
abbrev Bracketed : Type 0
Bracketed = (Leaf × Rest) ⊎ (Predicates × Leaf × (Option Predicates × Leaf × Document))

abbrev listed_document : Leaf → Predicates → Leaf → Option Predicates → Leaf → Document → Document
listed_document leaf inner end None dot ds = triples (alone leaf inner end) dot ∷ ds
listed_document leaf inner end (Some behind) dot ds = triples (with_more leaf inner end behind) dot ∷ ds

abbrev bracket_document : Leaf → Bracketed → Document
bracket_document leaf (inl y) = saying (Subject.anonymous leaf y.0) y.1
bracket_document leaf (inr y) = listed_document leaf y.0 y.1 y.2.0 y.2.1 y.2.2

square_first : (node : ℕ) (leaf : Leaf) (x : Document) (rest : List Lexeme) → document_tokens x ≡ lexeme kinds.OpenSquare leaf ∷ rest
    → (y : Bracketed) × (x ≡ bracket_document leaf y) × (rest ≡ tokens_by (expect.Property node) (holes.Subject ∷ []) y)
square_first node leaf (triples (about (Subject.anonymous start end) inner) dot ∷ ds) rest e =
    let after : List Lexeme = lexeme kinds.CloseSquare end ∷ rest_tokens (inner, dot, ds) in (
      inl (end, (inner, dot, ds)),
      ap (λ (a : Leaf). saying (Subject.anonymous a end) (inner, dot, ds)) (same_leaf kinds.OpenSquare kinds.OpenSquare start leaf after rest e),
      sym (same_rest (lexeme kinds.OpenSquare start) (lexeme kinds.OpenSquare leaf) after rest e),
    )
square_first node leaf (triples (alone start inner end) dot ∷ ds) rest e =
    let after : List Lexeme = predicates_tokens inner (lexeme kinds.CloseSquare end ∷ lexeme kinds.Dot dot ∷ document_tokens ds) in (
      inr (inner, end, (None, dot, ds)),
      ap (λ (a : Leaf). listed_document a inner end None dot ds) (same_leaf kinds.OpenSquare kinds.OpenSquare start leaf after rest e),
      sym (same_rest (lexeme kinds.OpenSquare start) (lexeme kinds.OpenSquare leaf) after rest e),
    )
square_first node leaf (triples (with_more start inner end behind) dot ∷ ds) rest e =
    let after : List Lexeme = predicates_tokens inner (lexeme kinds.CloseSquare end ∷ rest_tokens (behind, dot, ds)) in (
      inr (inner, end, (Some behind, dot, ds)),
      ap (λ (a : Leaf). listed_document a inner end (Some behind) dot ds) (same_leaf kinds.OpenSquare kinds.OpenSquare start leaf after rest e),
      sym (same_rest (lexeme kinds.OpenSquare start) (lexeme kinds.OpenSquare leaf) after rest e),
    )
square_first node leaf (triples (about (Subject.named (full l)) inner) dot ∷ ds) rest e = let k : kinds.Iri ≡ kinds.OpenSquare = ap kind_first e in absurd (cc)
square_first node leaf x rest e = let k : kind_first (document_tokens x) ≡ kinds.OpenSquare = ap kind_first e in absurd (cc)

alone_value : (r : Result State Fault) (t : Term) (k : State → Result State Fault)
    → r >>= (λ after. Ok (read t after)) >>= (λ s. Ok s.state) >>= k ≡ r >>= k
alone_value (Ok after) t k = refl
alone_value (Err f) t k = refl

behind_value : (r : Result State Fault) (t : Term) (g : Term → State → Result State Fault) (k : State → Result State Fault)
    → r >>= (λ after. Ok (read t after)) >>= (λ s. g s.term s.state) >>= k ≡ r >>= (λ after. g t after >>= k)
behind_value (Ok after) t g k = refl
behind_value (Err f) t g k = refl

abbrev in_brackets : Predicates → Result State Fault → Result Read Fault
in_brackets inner r =
    r >>= (λ here. predicates_of inner 1 (fresh here).term (fresh here).state >>= (λ after. Ok (read (fresh here).term after)))

listed_value : (leaf : Leaf) (inner : Predicates) (end : Leaf) (behind : Option Predicates) (dot : Leaf) (ds : Document) (st here : State)
    → may_open leaf.at 0 st ≡ Ok here
    → document_of (listed_document leaf inner end behind dot ds) st
    ≡ completed_by (expect.Property here.blanks) (holes.Subject ∷ []) (inr (inner, end, (behind, dot, ds))) (numbered here)
listed_value leaf inner end None dot ds st here h =
    ap (λ (r : Result State Fault). in_brackets inner r >>= (λ s. Ok s.state) >>= document_of ds) h
    ∙ alone_value (predicates_of inner 1 (terms.Blank here.blanks) (numbered here)) (terms.Blank here.blanks) (document_of ds)
listed_value leaf inner end (Some behind) dot ds st here h =
    ap (λ (r : Result State Fault). in_brackets inner r >>= (λ s. predicates_of behind 0 s.term s.state) >>= document_of ds) h
    ∙ behind_value (predicates_of inner 1 (terms.Blank here.blanks) (numbered here)) (terms.Blank here.blanks) (predicates_of behind 0) (document_of ds)

square_value : (leaf : Leaf) (y : Bracketed) (st here : State) → may_open leaf.at 0 st ≡ Ok here
    → document_of (bracket_document leaf y) st ≡ completed_by (expect.Property here.blanks) (holes.Subject ∷ []) y (numbered here)
square_value leaf (inl y) st here h =
    ap (λ (r : Result State Fault). r >>= (λ a. Ok (fresh a)) >>= (λ s. predicates_of y.1.0 0 s.term s.state) >>= document_of y.1.2) h
square_value leaf (inr y) st here h = listed_value leaf y.0 y.1 y.2.0 y.2.1 y.2.2 st here h

listed_fault : (leaf : Leaf) (inner : Predicates) (end : Leaf) (behind : Option Predicates) (dot : Leaf) (ds : Document) (st : State) (f : Fault)
    → may_open leaf.at 0 st ≡ Err f → document_of (listed_document leaf inner end behind dot ds) st ≡ Err f
listed_fault leaf inner end None dot ds st f h =
    ap (λ (r : Result State Fault). in_brackets inner r >>= (λ s. Ok s.state) >>= document_of ds) h
listed_fault leaf inner end (Some behind) dot ds st f h =
    ap (λ (r : Result State Fault). in_brackets inner r >>= (λ s. predicates_of behind 0 s.term s.state) >>= document_of ds) h

square_fault : (leaf : Leaf) (y : Bracketed) (st : State) (f : Fault) → may_open leaf.at 0 st ≡ Err f
    → document_of (bracket_document leaf y) st ≡ Err f
square_fault leaf (inl y) st f h =
    ap (λ (r : Result State Fault). r >>= (λ a. Ok (fresh a)) >>= (λ s. predicates_of y.1.0 0 s.term s.state) >>= document_of y.1.2) h
square_fault leaf (inr y) st f h = listed_fault leaf y.0 y.1 y.2.0 y.2.1 y.2.2 st f h

listed_tokens : (node : ℕ) (leaf : Leaf) (inner : Predicates) (end : Leaf) (behind : Option Predicates) (dot : Leaf) (ds : Document)
    → document_tokens (listed_document leaf inner end behind dot ds)
    ≡ lexeme kinds.OpenSquare leaf ∷ tokens_by (expect.Property node) (holes.Subject ∷ []) (inr (inner, end, (behind, dot, ds)))
listed_tokens node leaf inner end None dot ds = refl
listed_tokens node leaf inner end (Some behind) dot ds = refl

square_tokens : (node : ℕ) (leaf : Leaf) (y : Bracketed)
    → document_tokens (bracket_document leaf y) ≡ lexeme kinds.OpenSquare leaf ∷ tokens_by (expect.Property node) (holes.Subject ∷ []) y
square_tokens node leaf (inl y) = refl
square_tokens node leaf (inr y) = listed_tokens node leaf y.0 y.1 y.2.0 y.2.1 y.2.2

square_right : (leaf : Leaf) (st : State) (r : Result State Fault) → may_open leaf.at 0 st ≡ r
    → IsRight (config expect.Statement []) (lexeme kinds.OpenSquare leaf) st
    (on r (λ here. to (config (expect.Property here.blanks) (holes.Subject ∷ [])) (numbered here)))
square_right leaf st (Ok here) h = record {
  build = λ y. (bracket_document leaf y, square_tokens here.blanks leaf y, square_value leaf y st here h);
  split = λ x rest e.
      let i = square_first here.blanks leaf x rest e in
      (i.0, i.2, ap (λ (d : Document). document_of d st) i.1 ∙ square_value leaf i.0 st here h);
}
square_right leaf st (Err f) h = record {
  there = (saying (Subject.anonymous leaf leaf) (some_rest leaf), lexeme kinds.CloseSquare leaf ∷ rest_tokens (some_rest leaf), refl);
  each = λ x rest e.
      let i = square_first 0 leaf x rest e in
      ap (λ (d : Document). document_of d st) i.1 ∙ square_fault leaf i.0 st f h;
}

-- the kinds of tokens that begin a statement
abbrev begins_statement : TokenKind → Bool
begins_statement kinds.LanguageTag = true
begins_statement kinds.Prefix = true
begins_statement kinds.Base = true
begins_statement kinds.Iri = true
begins_statement kinds.PrefixedName = true
begins_statement kinds.Namespace = true
begins_statement kinds.BlankLabel = true
begins_statement kinds.OpenSquare = true
begins_statement kinds.OpenRound = true
begins_statement _ = false

abbrev may_begin : List Lexeme → Bool
may_begin [] = true
may_begin (t ∷ ts) = begins_statement t.kind

all_may_begin : (x : Document) → may_begin (document_tokens x) ≡ true
all_may_begin [] = refl
all_may_begin (at_prefix at namespace iri dot ∷ ds) = refl
all_may_begin (at_base at iri dot ∷ ds) = refl
all_may_begin (sparql_prefix word namespace iri ∷ ds) = refl
all_may_begin (sparql_base word iri ∷ ds) = refl
all_may_begin (triples (about (Subject.named (full l)) inner) dot ∷ ds) = refl
all_may_begin (triples (about (Subject.named (prefixed l)) inner) dot ∷ ds) = refl
all_may_begin (triples (about (Subject.named (bare l)) inner) dot ∷ ds) = refl
all_may_begin (triples (about (Subject.label l) inner) dot ∷ ds) = refl
all_may_begin (triples (about (Subject.anonymous start end) inner) dot ∷ ds) = refl
all_may_begin (triples (about (Subject.collection start items end) inner) dot ∷ ds) = refl
all_may_begin (triples (alone start inner end) dot ∷ ds) = refl
all_may_begin (triples (with_more start inner end behind) dot ∷ ds) = refl

begins : (kind : TokenKind) (leaf : Leaf) (x : Document) (rest : List Lexeme)
    → document_tokens x ≡ lexeme kind leaf ∷ rest → begins_statement kind ≡ true
begins kind leaf x rest e = sym (ap may_begin e) ∙ all_may_begin x

pub statement_right : (kind : TokenKind) (leaf : Leaf) (st : State)
    → IsRight (config expect.Statement []) (lexeme kind leaf) st (at_statement kind leaf [] st)
statement_right kinds.LanguageTag leaf st = directive_right [] leaf st
statement_right kinds.Prefix leaf st = sparql_prefix_right [] leaf st
statement_right kinds.Base leaf st = sparql_base_right [] leaf st
statement_right kinds.Iri leaf st = named_right kinds.Iri leaf (full leaf) st (name_of (full leaf) st) refl (λ ts. refl) (full_first leaf)
statement_right kinds.PrefixedName leaf st =
    named_right kinds.PrefixedName leaf (prefixed leaf) st (name_of (prefixed leaf) st) refl (λ ts. refl) (prefixed_first leaf)
statement_right kinds.Namespace leaf st = named_right kinds.Namespace leaf (bare leaf) st (name_of (bare leaf) st) refl (λ ts. refl) (bare_first leaf)
statement_right kinds.BlankLabel leaf st = label_right leaf st
statement_right kinds.OpenSquare leaf st = square_right leaf st (may_open leaf.at 0 st) refl
statement_right kinds.OpenRound leaf st = round_right leaf st (may_open leaf.at 0 st) refl
statement_right kind leaf st = λ x rest e. no (begins kind leaf x rest e)
