-- What may still come where a reader stands: partial trees, their tokens and what they leave. A move at a token takes that token off the
-- partial trees that begin with it.
use Rattle.std.proofs.Common.{inl, inr}
use Rattle.std.specs.Prelude.{◌≡◌, ◌⊎◌, ℕ, Bool, true, false, List, [], ◌∷◌, length, Option, None, Some, Result, Ok, Err}
use Rattle.triple_store.specs.declared.term.Term.{Term}
use Rattle.triple_store.specs.declared.term.Term.TheVariants as terms
use Rattle.turtle_grammar.specs.declared.token.TokenKind.{TokenKind}
use Rattle.turtle_grammar.specs.declared.token.TokenKind.TheVariants as kinds
use Rattle.turtle_grammar.specs.Tree.{Lexeme, Leaf, Name, Suffix, Object, Items, Predicates, Objects, More, Document, lexeme, name_tokens, suffix_tokens, object_tokens, items_tokens, predicates_tokens, objects_tokens, more_tokens, document_tokens}
use Rattle.turtle_grammar.specs.Tree.Suffix.{nothing, language, datatype}
use Rattle.turtle_grammar.specs.Value.{prefix_of}
use Rattle.turtle_document.specs.Vocabulary.{rdf_first}
use Rattle.turtle_document.specs.Meaning.{Fault, State, ◌>>=◌, add, bound, name_of, name_at, absolute, literal_of, object_of, object_end, items_of, predicates_of, objects_of, more_of, document_of}
use Rattle.turtle_document.specs.Machine.{Config, Move, last_of, listed}
use Rattle.turtle_document.specs.Machine.Move.{to, stuck, fails}
use Rattle.turtle_document.specs.declared.expected.Hole.{Hole}
use Rattle.turtle_document.specs.declared.expected.Hole.TheVariants as holes
use Rattle.turtle_document.specs.declared.expected.Chain.{Chain}
use Rattle.turtle_document.specs.declared.expected.Chain.TheVariants as chains
use Rattle.turtle_document.specs.declared.expected.Expected.{Expected}
use Rattle.turtle_document.specs.declared.expected.Expected.TheVariants as expect

-- what may follow an object of a list: nothing or `;`, or `,` and more objects
pub data Tail : Type 0 where
  over : More → Tail
  another : Leaf → Objects → More → Tail

-- what may follow a `;`
pub data Behind : Type 0 where
  again : More → Behind
  list : Predicates → Behind

abbrev pub tail_tokens : Tail → List Lexeme → List Lexeme
tail_tokens (over more) rest = more_tokens more rest
tail_tokens (another comma objects more) rest = lexeme kinds.Comma comma ∷ objects_tokens objects (more_tokens more rest)

abbrev pub behind_tokens : Behind → List Lexeme → List Lexeme
behind_tokens (again more) rest = more_tokens more rest
behind_tokens (list more) rest = predicates_tokens more rest

abbrev pub maybe_tokens : Option Predicates → List Lexeme → List Lexeme
maybe_tokens None rest = rest
maybe_tokens (Some more) rest = predicates_tokens more rest

abbrev pub tail_of : Tail → ℕ → Term → Term → State → Result State Fault
tail_of (over more) n s p st = more_of more n s st
tail_of (another comma objects more) n s p st = objects_of objects n s p st >>= more_of more n s

abbrev pub behind_of : Behind → ℕ → Term → State → Result State Fault
behind_of (again more) n s st = more_of more n s st
behind_of (list more) n s st = predicates_of more n s st

abbrev pub maybe_of : Option Predicates → ℕ → Term → State → Result State Fault
maybe_of None n s st = Ok st
maybe_of (Some more) n s st = predicates_of more n s st

-- what closes a list of predicates where these holes are open
abbrev pub close_kind : List Hole → TokenKind
close_kind [] = kinds.Dot
close_kind (hole ∷ outer) = kinds.CloseSquare

-- What may still come once the first hole is filled, up to the document's end.
abbrev pub Up : List Hole → Type 0
Up [] = Document
Up (holes.Subject ∷ outer) = Predicates × Leaf × Up outer
Up (holes.ListedSubject ∷ outer) = Option Predicates × Leaf × Up outer
Up (holes.Object s p ∷ outer) = Tail × Leaf × Up outer
Up (holes.Item first node ∷ outer) = Items × Leaf × Up outer

abbrev pub up_tokens : (outer : List Hole) → Up outer → List Lexeme
up_tokens [] x = document_tokens x
up_tokens (holes.Subject ∷ outer) x = predicates_tokens x.0 (lexeme (close_kind outer) x.1 ∷ up_tokens outer x.2)
up_tokens (holes.ListedSubject ∷ outer) x = maybe_tokens x.0 (lexeme (close_kind outer) x.1 ∷ up_tokens outer x.2)
up_tokens (holes.Object s p ∷ outer) x = tail_tokens x.0 (lexeme (close_kind outer) x.1 ∷ up_tokens outer x.2)
up_tokens (holes.Item first node ∷ outer) x = items_tokens x.0 (lexeme kinds.CloseRound x.1 ∷ up_tokens outer x.2)

-- what it leaves, where a term fills that hole, whose last token stands at this place
abbrev pub up_of : (outer : List Hole) → Up outer → Term → ℕ → State → Result State Fault
up_of [] x term at st = document_of x st
up_of (holes.Subject ∷ outer) x term at st = predicates_of x.0 (length outer) term st >>= up_of outer x.2 term x.1.at
up_of (holes.ListedSubject ∷ outer) x term at st = maybe_of x.0 (length outer) term st >>= up_of outer x.2 term x.1.at
up_of (holes.Object s p ∷ outer) x term at st = add at s p term st >>= tail_of x.0 (length outer) s p >>= up_of outer x.2 s x.1.at
up_of (holes.Item first node ∷ outer) x term at st =
    add at (terms.Blank node) (terms.Iri rdf_first) term st >>= items_of x.0 (length outer) (Some node) x.1.at
    >>= (λ rest. up_of outer x.2 (terms.Blank first) x.1.at rest.state)

-- the dot of a directive, where it has one
abbrev pub Dots : Bool → Type 0
Dots true = Leaf
Dots false = Unit {0}

abbrev pub dots_tokens : (dot : Bool) → Dots dot → List Lexeme → List Lexeme
dots_tokens true leaf rest = lexeme kinds.Dot leaf ∷ rest
dots_tokens false leaf rest = rest

-- the partial trees that may come
abbrev pub Completion : Expected → List Hole → Type 0
Completion expect.Statement outer = Document
Completion (expect.Prefix dot) outer = Leaf × Leaf × Dots dot × Document
Completion (expect.Namespace dot prefix) outer = Leaf × Dots dot × Document
Completion (expect.Base dot) outer = Leaf × Dots dot × Document
Completion expect.DirectiveDot outer = Leaf × Document
Completion (expect.Verb s) outer = Predicates × Leaf × Up outer
Completion (expect.AfterSemicolon s) outer = Behind × Leaf × Up outer
Completion (expect.AfterObject s p) outer = Tail × Leaf × Up outer
Completion (expect.AfterListed s) outer = Option Predicates × Leaf × Up outer
Completion (expect.Object s p) outer = Object × Up (holes.Object s p ∷ outer)
Completion (expect.Item chain) outer = Items × Leaf × Up outer
Completion (expect.Property node) outer = (Leaf × Up outer) ⊎ (Predicates × Leaf × Up (listed outer))
Completion (expect.Suffix text at hole) outer = Suffix × Up (hole ∷ outer)
Completion (expect.Datatype text hole) outer = Name × Up (hole ∷ outer)

-- their tokens
abbrev pub tokens_by : (next : Expected) (outer : List Hole) → Completion next outer → List Lexeme
tokens_by expect.Statement outer x = document_tokens x
tokens_by (expect.Prefix dot) outer x = lexeme kinds.Namespace x.0 ∷ lexeme kinds.Iri x.1 ∷ dots_tokens dot x.2 (document_tokens x.3)
tokens_by (expect.Namespace dot prefix) outer x = lexeme kinds.Iri x.0 ∷ dots_tokens dot x.1 (document_tokens x.2)
tokens_by (expect.Base dot) outer x = lexeme kinds.Iri x.0 ∷ dots_tokens dot x.1 (document_tokens x.2)
tokens_by expect.DirectiveDot outer x = lexeme kinds.Dot x.0 ∷ document_tokens x.1
tokens_by (expect.Verb s) outer x = predicates_tokens x.0 (lexeme (close_kind outer) x.1 ∷ up_tokens outer x.2)
tokens_by (expect.AfterSemicolon s) outer x = behind_tokens x.0 (lexeme (close_kind outer) x.1 ∷ up_tokens outer x.2)
tokens_by (expect.AfterObject s p) outer x = tail_tokens x.0 (lexeme (close_kind outer) x.1 ∷ up_tokens outer x.2)
tokens_by (expect.AfterListed s) outer x = maybe_tokens x.0 (lexeme (close_kind outer) x.1 ∷ up_tokens outer x.2)
tokens_by (expect.Object s p) outer x = object_tokens x.0 (up_tokens (holes.Object s p ∷ outer) x.1)
tokens_by (expect.Item chain) outer x = items_tokens x.0 (lexeme kinds.CloseRound x.1 ∷ up_tokens outer x.2)
tokens_by (expect.Property node) outer (inl x) = lexeme kinds.CloseSquare x.0 ∷ up_tokens outer x.1
tokens_by (expect.Property node) outer (inr x) = predicates_tokens x.0 (lexeme kinds.CloseSquare x.1 ∷ up_tokens (listed outer) x.2)
tokens_by (expect.Suffix text at hole) outer x = suffix_tokens x.0 (up_tokens (hole ∷ outer) x.1)
tokens_by (expect.Datatype text hole) outer x = name_tokens x.0 (up_tokens (hole ∷ outer) x.1)

-- what a collection is, if these are its nodes so far and the rest is this
abbrev pub collected : Chain → Term → Term
collected chains.Empty rest = rest
collected (chains.Nodes first last) rest = terms.Blank first

-- where an object of one string ends
abbrev pub string_end : ℕ → Suffix → ℕ
string_end at nothing = at
string_end at (language tag) = tag.at
string_end at (datatype carets name) = name_at name

-- what they leave, from an environment on
abbrev pub completed_by : (next : Expected) (outer : List Hole) → Completion next outer → State → Result State Fault
completed_by expect.Statement outer x st = document_of x st
completed_by (expect.Prefix dot) outer x st =
    absolute st.base x.1 >>= (λ value. document_of x.3 (record st { prefixes = bound (prefix_of x.0.text) value st.prefixes }))
completed_by (expect.Namespace dot prefix) outer x st =
    absolute st.base x.0 >>= (λ value. document_of x.2 (record st { prefixes = bound prefix value st.prefixes }))
completed_by (expect.Base dot) outer x st = absolute st.base x.0 >>= (λ value. document_of x.2 (record st { base = value }))
completed_by expect.DirectiveDot outer x st = document_of x.1 st
completed_by (expect.Verb s) outer x st = predicates_of x.0 (length outer) s st >>= up_of outer x.2 s x.1.at
completed_by (expect.AfterSemicolon s) outer x st = behind_of x.0 (length outer) s st >>= up_of outer x.2 s x.1.at
completed_by (expect.AfterObject s p) outer x st = tail_of x.0 (length outer) s p st >>= up_of outer x.2 s x.1.at
completed_by (expect.AfterListed s) outer x st = maybe_of x.0 (length outer) s st >>= up_of outer x.2 s x.1.at
completed_by (expect.Object s p) outer x st =
    object_of x.0 (length outer) st >>= (λ value. up_of (holes.Object s p ∷ outer) x.1 value.term (object_end x.0) value.state)
completed_by (expect.Item chain) outer x st =
    items_of x.0 (length outer) (last_of chain) x.1.at st >>= (λ rest. up_of outer x.2 (collected chain rest.term) x.1.at rest.state)
completed_by (expect.Property node) outer (inl x) st = up_of outer x.1 (terms.Blank node) x.0.at st
completed_by (expect.Property node) outer (inr x) st =
    predicates_of x.0 (length outer) (terms.Blank node) st >>= up_of (listed outer) x.2 (terms.Blank node) x.1.at
completed_by (expect.Suffix text at hole) outer x st =
    literal_of text x.0 st >>= (λ term. up_of (hole ∷ outer) x.1 term (string_end at x.0) st)
completed_by (expect.Datatype text hole) outer x st =
    name_of x.0 st >>= (λ iri. up_of (hole ∷ outer) x.1 (terms.Literal text iri []) (name_at x.0) st)

abbrev pub Partial : Config → Type 0
Partial c = Completion c.next c.outer

abbrev pub tokens_of : (c : Config) → Partial c → List Lexeme
tokens_of c x = tokens_by c.next c.outer x

abbrev pub completed : (c : Config) → Partial c → State → Result State Fault
completed c x st = completed_by c.next c.outer x st

-- A token leads on: the partial trees after it are those before it that begin with it, and they leave the same.
pub record Moves (c : Config) (t : Lexeme) (st : State) (d : Config) (after : State) : Type 0 where
  pub build : (y : Partial d) → (x : Partial c) × (tokens_of c x ≡ t ∷ tokens_of d y) × (completed c x st ≡ completed d y after)
  pub split : (x : Partial c) (rest : List Lexeme) → tokens_of c x ≡ t ∷ rest
      → (y : Partial d) × (rest ≡ tokens_of d y) × (completed c x st ≡ completed d y after)

-- no partial tree begins with it
abbrev pub IsStuck : Config → Lexeme → Type 0
IsStuck c t = (x : Partial c) (rest : List Lexeme) → tokens_of c x ≡ t ∷ rest → ⊥

-- one does, and each that does has this fault
pub record HasFault (c : Config) (t : Lexeme) (st : State) (f : Fault) : Type 0 where
  pub there : (x : Partial c) × (rest : List Lexeme) × (tokens_of c x ≡ t ∷ rest)
  pub each : (x : Partial c) (rest : List Lexeme) → tokens_of c x ≡ t ∷ rest → completed c x st ≡ Err f

-- a move is right
abbrev pub IsRight : Config → Lexeme → State → Move → Type 0
IsRight c t st (to d after) = Moves c t st d after
IsRight c t st stuck = IsStuck c t
IsRight c t st (fails f) = HasFault c t st f
