-- Parse trees of Turtle documents: the productions of W3C Turtle 1.1, section 6.5, by their numbers there. The leaves are tokens with
-- their texts, and a document's tokens are its leaves in order.
use Rattle.std.specs.Prelude.{ℕ, List, [], ◌∷◌, codes}
use Rattle.turtle_grammar.specs.declared.token.TokenKind.{TokenKind}
use Rattle.turtle_grammar.specs.declared.token.TokenKind.TheVariants as kinds

-- a token with its text, by its first byte's place
pub record Lexeme : Type 0 where
  pub kind : TokenKind
  pub at : ℕ
  pub text : List ℕ

-- a leaf, whose kind its place in the tree tells
pub record Leaf : Type 0 where
  pub at : ℕ
  pub text : List ℕ

-- iri [135s]: in full, or PrefixedName [136s] with a local name or without one
pub data Name : Type 0 where
  full : Leaf → Name
  prefixed : Leaf → Name
  bare : Leaf → Name

-- the four strings of String [17]
pub data Quoting : Type 0 where
  double : Quoting
  single : Quoting
  long_double : Quoting
  long_single : Quoting

-- NumericLiteral [16] and BooleanLiteral [133s]
pub data Shorthand : Type 0 where
  integer : Shorthand
  decimal : Shorthand
  double_number : Shorthand
  true_word : Shorthand
  false_word : Shorthand

-- what may follow the string of RDFLiteral [128s]
pub data Suffix : Type 0 where
  nothing : Suffix
  language : Leaf → Suffix
  datatype : Leaf → Name → Suffix

-- verb [9]: predicate [11] or `a`
pub data Verb : Type 0 where
  predicate : Name → Verb
  is_a : Leaf → Verb

mutual
  -- object [12]: iri, BlankNode [137s] by its label or as ANON [162s], literal [13], collection [15], blankNodePropertyList [14]
  pub data Object : Type 0 where
    named : Name → Object
    label : Leaf → Object
    anonymous : Leaf → Leaf → Object
    quoted : Quoting → Leaf → Suffix → Object
    short : Shorthand → Leaf → Object
    collection : Leaf → Items → Leaf → Object
    properties : Leaf → Predicates → Leaf → Object

  pub data Items : Type 0 where
    none : Items
    item : Object → Items → Items

  -- predicateObjectList [7]: a verb and its objects, and what follows them
  pub data Predicates : Type 0 where
    predicates : Verb → Objects → More → Predicates

  -- objectList [8]
  pub data Objects : Type 0 where
    one : Object → Objects
    several : Object → Leaf → Objects → Objects

  -- nothing, or `;` with nothing or a verb and objects after it
  pub data More : Type 0 where
    done : More
    empty : Leaf → More → More
    next : Leaf → Predicates → More

-- subject [10]
pub data Subject : Type 0 where
  named : Name → Subject
  label : Leaf → Subject
  anonymous : Leaf → Leaf → Subject
  collection : Leaf → Items → Leaf → Subject

-- triples [6]
pub data Triples : Type 0 where
  about : Subject → Predicates → Triples
  alone : Leaf → Predicates → Leaf → Triples
  with_more : Leaf → Predicates → Leaf → Predicates → Triples

-- statement [2]: prefixID [4], base [5], sparqlPrefix [6s], sparqlBase [5s], or triples and a dot. Of `@prefix` and `@base` the place is
-- kept.
pub data Statement : Type 0 where
  at_prefix : ℕ → Leaf → Leaf → Leaf → Statement
  at_base : ℕ → Leaf → Leaf → Statement
  sparql_prefix : Leaf → Leaf → Leaf → Statement
  sparql_base : Leaf → Leaf → Statement
  triples : Triples → Leaf → Statement

-- turtleDoc [1]
abbrev pub Document : Type 0
Document = List Statement

abbrev pub lexeme : TokenKind → Leaf → Lexeme
lexeme kind leaf = record { kind = kind; at = leaf.at; text = leaf.text }

-- a word of the grammar at a place
abbrev pub language_word : ℕ → List ℕ → Lexeme
language_word at text = record { kind = kinds.LanguageTag; at = at; text = text }

abbrev pub quoting_kind : Quoting → TokenKind
quoting_kind double = kinds.String
quoting_kind single = kinds.SingleString
quoting_kind long_double = kinds.LongString
quoting_kind long_single = kinds.LongSingleString

abbrev pub shorthand_kind : Shorthand → TokenKind
shorthand_kind integer = kinds.Integer
shorthand_kind decimal = kinds.Decimal
shorthand_kind double_number = kinds.Double
shorthand_kind true_word = kinds.True
shorthand_kind false_word = kinds.False

-- Each of the following is a tree's tokens with what stands after them.
abbrev pub name_tokens : Name → List Lexeme → List Lexeme
name_tokens (full leaf) rest = lexeme kinds.Iri leaf ∷ rest
name_tokens (prefixed leaf) rest = lexeme kinds.PrefixedName leaf ∷ rest
name_tokens (bare leaf) rest = lexeme kinds.Namespace leaf ∷ rest

abbrev pub suffix_tokens : Suffix → List Lexeme → List Lexeme
suffix_tokens nothing rest = rest
suffix_tokens (language tag) rest = lexeme kinds.LanguageTag tag ∷ rest
suffix_tokens (datatype carets name) rest = lexeme kinds.DoubleCaret carets ∷ name_tokens name rest

abbrev pub verb_tokens : Verb → List Lexeme → List Lexeme
verb_tokens (predicate name) rest = name_tokens name rest
verb_tokens (is_a leaf) rest = lexeme kinds.A leaf ∷ rest

abbrev mutual
  pub object_tokens : Object → List Lexeme → List Lexeme
  object_tokens (Object.named name) rest = name_tokens name rest
  object_tokens (Object.label leaf) rest = lexeme kinds.BlankLabel leaf ∷ rest
  object_tokens (Object.anonymous start end) rest = lexeme kinds.OpenSquare start ∷ lexeme kinds.CloseSquare end ∷ rest
  object_tokens (quoted quoting leaf suffix) rest = lexeme (quoting_kind quoting) leaf ∷ suffix_tokens suffix rest
  object_tokens (short shorthand leaf) rest = lexeme (shorthand_kind shorthand) leaf ∷ rest
  object_tokens (Object.collection start items end) rest = lexeme kinds.OpenRound start ∷ items_tokens items (lexeme kinds.CloseRound end ∷ rest)
  object_tokens (properties start list end) rest = lexeme kinds.OpenSquare start ∷ predicates_tokens list (lexeme kinds.CloseSquare end ∷ rest)

  pub items_tokens : Items → List Lexeme → List Lexeme
  items_tokens none rest = rest
  items_tokens (item object items) rest = object_tokens object (items_tokens items rest)

  pub predicates_tokens : Predicates → List Lexeme → List Lexeme
  predicates_tokens (predicates verb objects more) rest = verb_tokens verb (objects_tokens objects (more_tokens more rest))

  pub objects_tokens : Objects → List Lexeme → List Lexeme
  objects_tokens (one object) rest = object_tokens object rest
  objects_tokens (several object comma objects) rest = object_tokens object (lexeme kinds.Comma comma ∷ objects_tokens objects rest)

  pub more_tokens : More → List Lexeme → List Lexeme
  more_tokens done rest = rest
  more_tokens (empty semicolon more) rest = lexeme kinds.Semicolon semicolon ∷ more_tokens more rest
  more_tokens (next semicolon list) rest = lexeme kinds.Semicolon semicolon ∷ predicates_tokens list rest

-- a subject is an object too
abbrev pub as_object : Subject → Object
as_object (Subject.named name) = Object.named name
as_object (Subject.label leaf) = Object.label leaf
as_object (Subject.anonymous start end) = Object.anonymous start end
as_object (Subject.collection start items end) = Object.collection start items end

abbrev pub triples_tokens : Triples → List Lexeme → List Lexeme
triples_tokens (about subject list) rest = object_tokens (as_object subject) (predicates_tokens list rest)
triples_tokens (alone start inner end) rest = lexeme kinds.OpenSquare start ∷ predicates_tokens inner (lexeme kinds.CloseSquare end ∷ rest)
triples_tokens (with_more start inner end list) rest = lexeme kinds.OpenSquare start ∷ predicates_tokens inner (lexeme kinds.CloseSquare end ∷ predicates_tokens list rest)

abbrev pub statement_tokens : Statement → List Lexeme → List Lexeme
statement_tokens (at_prefix at namespace iri dot) rest =
    language_word at (codes "@prefix") ∷ lexeme kinds.Namespace namespace ∷ lexeme kinds.Iri iri ∷ lexeme kinds.Dot dot ∷ rest
statement_tokens (at_base at iri dot) rest = language_word at (codes "@base") ∷ lexeme kinds.Iri iri ∷ lexeme kinds.Dot dot ∷ rest
statement_tokens (sparql_prefix word namespace iri) rest = lexeme kinds.Prefix word ∷ lexeme kinds.Namespace namespace ∷ lexeme kinds.Iri iri ∷ rest
statement_tokens (sparql_base word iri) rest = lexeme kinds.Base word ∷ lexeme kinds.Iri iri ∷ rest
statement_tokens (triples list dot) rest = triples_tokens list (lexeme kinds.Dot dot ∷ rest)

abbrev pub document_tokens : Document → List Lexeme
document_tokens [] = []
document_tokens (statement ∷ statements) = statement_tokens statement (document_tokens statements)
