-- A reader that goes from token to token: what has to come next, and what stands open. Its moves are proved to be those of the grammar and
-- of the meaning; no promise rests on it alone.
use Rattle.std.specs.Prelude.{ℕ, Bool, true, false, List, [], ◌∷◌, length, Option, None, Some, Result, Ok, Err, if◌then◌else◌, codes}
use Rattle.std.specs.Str.{bytes_eq}
use Rattle.triple_store.specs.declared.term.Term.{Term}
use Rattle.triple_store.specs.declared.term.Term.TheVariants as terms
use Rattle.turtle_grammar.specs.declared.token.TokenKind.{TokenKind}
use Rattle.turtle_grammar.specs.declared.token.TokenKind.TheVariants as kinds
use Rattle.turtle_grammar.specs.Tree.{Leaf, Name, Quoting, Shorthand}
use Rattle.turtle_grammar.specs.Tree.Name.{full, prefixed, bare}
use Rattle.turtle_grammar.specs.Tree.Quoting.{double, single, long_double, long_single}
use Rattle.turtle_grammar.specs.Tree.Shorthand.{integer, decimal, double_number, true_word, false_word}
use Rattle.turtle_grammar.specs.Value.{string_of, prefix_of, tag_of}
use Rattle.turtle_document.specs.Vocabulary.{rdf_type, rdf_first, rdf_nil, rdf_lang_string, xsd_string, datatype_of}
use Rattle.turtle_document.specs.Meaning.{Fault, State, ◌>>=◌, bound, numbered, labelled, may_open, add, name_of, absolute, linked, ended}
use Rattle.turtle_document.specs.declared.expected.Hole.{Hole}
use Rattle.turtle_document.specs.declared.expected.Hole.TheVariants as holes
use Rattle.turtle_document.specs.declared.expected.Chain.{Chain}
use Rattle.turtle_document.specs.declared.expected.Chain.TheVariants as chains
use Rattle.turtle_document.specs.declared.expected.Expected.{Expected}
use Rattle.turtle_document.specs.declared.expected.Expected.TheVariants as expect

-- what has to come next, and for each open bracket, the innermost first, what it fills once it is closed
pub record Config : Type 0 where
  pub next : Expected
  pub outer : List Hole

abbrev pub config : Expected → List Hole → Config
config next outer = record { next = next; outer = outer }

-- a move: on, no document goes on so, or a fault
pub data Move : Type 0 where
  to : Config → State → Move
  stuck : Move
  fails : Fault → Move

-- on with what was read, or the fault
abbrev pub on : {A : Type 0} → Result A Fault → (A → Move) → Move
on (Ok x) f = f x
on (Err fault) f = fails fault

-- A hole is filled by a term whose last token stands at a place.
abbrev pub filled : Hole → ℕ → Term → List Hole → State → Move
filled holes.Subject at term outer st = to (config (expect.Verb term) outer) st
filled holes.ListedSubject at term outer st = to (config (expect.AfterListed term) outer) st
filled (holes.Object s p) at term outer st = on (add at s p term st) (to (config (expect.AfterObject s p) outer))
filled (holes.Item first node) at term outer st =
    on (add at (terms.Blank node) (terms.Iri rdf_first) term st) (to (config (expect.Item (chains.Nodes first node)) outer))

-- the outermost hole of brackets that are closed
abbrev pub closed : ℕ → Term → List Hole → State → Move
closed at term [] st = stuck
closed at term (hole ∷ outer) st = filled hole at term outer st

-- a name, where a token is one
abbrev pub as_name : TokenKind → Leaf → Option Name
as_name kinds.Iri leaf = Some (full leaf)
as_name kinds.PrefixedName leaf = Some (prefixed leaf)
as_name kinds.Namespace leaf = Some (bare leaf)
as_name _ leaf = None

abbrev pub as_quoting : TokenKind → Option Quoting
as_quoting kinds.String = Some double
as_quoting kinds.SingleString = Some single
as_quoting kinds.LongString = Some long_double
as_quoting kinds.LongSingleString = Some long_single
as_quoting _ = None

abbrev pub as_shorthand : TokenKind → Option Shorthand
as_shorthand kinds.Integer = Some integer
as_shorthand kinds.Decimal = Some decimal
as_shorthand kinds.Double = Some double_number
as_shorthand kinds.True = Some true_word
as_shorthand kinds.False = Some false_word
as_shorthand _ = None

-- A term's first token, for a hole: a blank label or a bracket.
abbrev pub begin_node : TokenKind → Hole → Leaf → List Hole → State → Move
begin_node kinds.BlankLabel hole leaf outer st = filled hole leaf.at (labelled leaf.text st).term outer (labelled leaf.text st).state
begin_node kinds.OpenSquare hole leaf outer st =
    on (may_open leaf.at (length outer) st) (λ here. to (config (expect.Property here.blanks) (hole ∷ outer)) (numbered here))
begin_node kinds.OpenRound hole leaf outer st =
    on (may_open leaf.at (length outer) st) (to (config (expect.Item chains.Empty) (hole ∷ outer)))
begin_node _ hole leaf outer st = stuck

-- a name, or else a node
abbrev pub begin_resource : Option Name → TokenKind → Hole → Leaf → List Hole → State → Move
begin_resource (Some name) kind hole leaf outer st = on (name_of name st) (λ iri. filled hole leaf.at (terms.Iri iri) outer st)
begin_resource None kind hole leaf outer st = begin_node kind hole leaf outer st

abbrev pub begin_short : Option Shorthand → TokenKind → Hole → Leaf → List Hole → State → Move
begin_short (Some shorthand) kind hole leaf outer st = filled hole leaf.at (terms.Literal leaf.text (datatype_of shorthand) []) outer st
begin_short None kind hole leaf outer st = begin_resource (as_name kind leaf) kind hole leaf outer st

-- a string waits for what follows it
abbrev pub begin_by : Option Quoting → TokenKind → Hole → Leaf → List Hole → State → Move
begin_by (Some quoting) kind hole leaf outer st = to (config (expect.Suffix (string_of quoting leaf.text) leaf.at hole) outer) st
begin_by None kind hole leaf outer st = begin_short (as_shorthand kind) kind hole leaf outer st

-- an object's first token
abbrev pub begin_object : TokenKind → Hole → Leaf → List Hole → State → Move
begin_object kind hole leaf outer st = begin_by (as_quoting kind) kind hole leaf outer st

-- whether a token begins an object
abbrev pub begins_object : TokenKind → Bool
begins_object kinds.Iri = true
begins_object kinds.PrefixedName = true
begins_object kinds.Namespace = true
begins_object kinds.BlankLabel = true
begins_object kinds.OpenSquare = true
begins_object kinds.OpenRound = true
begins_object kinds.String = true
begins_object kinds.SingleString = true
begins_object kinds.LongString = true
begins_object kinds.LongSingleString = true
begins_object kinds.Integer = true
begins_object kinds.Decimal = true
begins_object kinds.Double = true
begins_object kinds.True = true
begins_object kinds.False = true
begins_object _ = false

abbrev pub started_name : Option Name → State → Result State Fault
started_name None st = Ok st
started_name (Some name) st = name_of name st >>= (λ iri. Ok st)

-- the fault of an object's first token, if it has one
abbrev pub started_by : TokenKind → Leaf → ℕ → State → Result State Fault
started_by kinds.OpenSquare leaf n st = may_open leaf.at n st
started_by kinds.OpenRound leaf n st = may_open leaf.at n st
started_by kind leaf n st = started_name (as_name kind leaf) st

-- the node of the last item so far
abbrev pub last_of : Chain → Option ℕ
last_of chains.Empty = None
last_of (chains.Nodes first last) = Some last

-- the first node of a collection, whose next item has this node
abbrev pub first_of : Chain → ℕ → ℕ
first_of chains.Empty node = node
first_of (chains.Nodes first last) node = first

-- what a collection is that ends here
abbrev pub collection_of : Chain → Term
collection_of chains.Empty = terms.Iri rdf_nil
collection_of (chains.Nodes first last) = terms.Blank first

-- an item's first token: the fault of the token comes first, then the node is numbered and linked
abbrev pub begin_item : TokenKind → Leaf → Chain → List Hole → State → Move
begin_item kind leaf chain outer st =
    on (started_by kind leaf (length outer) st) (λ here.
    on (linked (last_of chain) leaf.at here.blanks (numbered here)) (λ inside.
    begin_object kind (holes.Item (first_of chain here.blanks) here.blanks) leaf outer inside))

abbrev pub in_collection : TokenKind → Leaf → Chain → List Hole → State → Move
in_collection kinds.CloseRound leaf chain outer st = on (ended (last_of chain) leaf.at st) (closed leaf.at (collection_of chain) outer)
in_collection kind leaf chain outer st = if begins_object kind then begin_item kind leaf chain outer st else stuck

abbrev pub begin_verb : Option Name → TokenKind → Term → List Hole → State → Move
begin_verb (Some name) kind s outer st = on (name_of name st) (λ iri. to (config (expect.Object s (terms.Iri iri)) outer) st)
begin_verb None kinds.A s outer st = to (config (expect.Object s (terms.Iri rdf_type)) outer) st
begin_verb None _ s outer st = stuck

abbrev pub at_verb : TokenKind → Leaf → Term → List Hole → State → Move
at_verb kind leaf s outer st = begin_verb (as_name kind leaf) kind s outer st

-- the end of what is said of a subject: a statement's dot, or the bracket of a property list, whose node the subject is
abbrev pub at_end : TokenKind → Leaf → Term → List Hole → State → Move
at_end kinds.Dot leaf s [] st = to (config expect.Statement []) st
at_end kinds.CloseSquare leaf s (hole ∷ outer) st = filled hole leaf.at s outer st
at_end _ leaf s outer st = stuck

abbrev pub after_object : TokenKind → Leaf → Term → Term → List Hole → State → Move
after_object kinds.Comma leaf s p outer st = to (config (expect.Object s p) outer) st
after_object kinds.Semicolon leaf s p outer st = to (config (expect.AfterSemicolon s) outer) st
after_object kind leaf s p outer st = at_end kind leaf s outer st

abbrev pub after_semicolon : TokenKind → Leaf → Term → List Hole → State → Move
after_semicolon kinds.Semicolon leaf s outer st = to (config (expect.AfterSemicolon s) outer) st
after_semicolon kinds.Dot leaf s outer st = at_end kinds.Dot leaf s outer st
after_semicolon kinds.CloseSquare leaf s outer st = at_end kinds.CloseSquare leaf s outer st
after_semicolon kind leaf s outer st = at_verb kind leaf s outer st

abbrev pub after_listed : TokenKind → Leaf → Term → List Hole → State → Move
after_listed kinds.Dot leaf s outer st = at_end kinds.Dot leaf s outer st
after_listed kinds.CloseSquare leaf s outer st = at_end kinds.CloseSquare leaf s outer st
after_listed kind leaf s outer st = at_verb kind leaf s outer st

-- a subject in brackets that hold properties is a listed one
abbrev pub listed : List Hole → List Hole
listed (holes.Subject ∷ outer) = holes.ListedSubject ∷ outer
listed outer = outer

abbrev pub in_brackets : TokenKind → Leaf → ℕ → List Hole → State → Move
in_brackets kinds.CloseSquare leaf node outer st = closed leaf.at (terms.Blank node) outer st
in_brackets kind leaf node outer st = at_verb kind leaf (terms.Blank node) (listed outer) st

abbrev pub at_directive : List ℕ → List Hole → State → Move
at_directive text outer st =
    if bytes_eq text (codes "@prefix") then to (config (expect.Prefix true) outer) st else
    if bytes_eq text (codes "@base") then to (config (expect.Base true) outer) st else stuck

abbrev pub at_statement : TokenKind → Leaf → List Hole → State → Move
at_statement kinds.LanguageTag leaf outer st = at_directive leaf.text outer st
at_statement kinds.Prefix leaf outer st = to (config (expect.Prefix false) outer) st
at_statement kinds.Base leaf outer st = to (config (expect.Base false) outer) st
at_statement kind leaf outer st = begin_resource (as_name kind leaf) kind holes.Subject leaf outer st

abbrev pub at_prefix : TokenKind → Leaf → Bool → List Hole → State → Move
at_prefix kinds.Namespace leaf dot outer st = to (config (expect.Namespace dot (prefix_of leaf.text)) outer) st
at_prefix _ leaf dot outer st = stuck

-- what comes after a directive's IRI
abbrev pub after_iri : Bool → Expected
after_iri true = expect.DirectiveDot
after_iri false = expect.Statement

abbrev pub at_namespace : TokenKind → Leaf → Bool → List ℕ → List Hole → State → Move
at_namespace kinds.Iri leaf dot prefix outer st =
    on (absolute st.base leaf) (λ value. to (config (after_iri dot) outer) (record st { prefixes = bound prefix value st.prefixes }))
at_namespace _ leaf dot prefix outer st = stuck

abbrev pub at_base : TokenKind → Leaf → Bool → List Hole → State → Move
at_base kinds.Iri leaf dot outer st = on (absolute st.base leaf) (λ value. to (config (after_iri dot) outer) (record st { base = value }))
at_base _ leaf dot outer st = stuck

abbrev pub at_dot : TokenKind → List Hole → State → Move
at_dot kinds.Dot outer st = to (config expect.Statement outer) st
at_dot _ outer st = stuck

abbrev pub typed_by : Option Name → Leaf → List ℕ → Hole → List Hole → State → Move
typed_by (Some name) leaf text hole outer st = on (name_of name st) (λ iri. filled hole leaf.at (terms.Literal text iri []) outer st)
typed_by None leaf text hole outer st = stuck

-- a token where no string waits
abbrev pub plain_move : Expected → List Hole → TokenKind → Leaf → State → Move
plain_move expect.Statement outer kind leaf st = at_statement kind leaf outer st
plain_move (expect.Prefix dot) outer kind leaf st = at_prefix kind leaf dot outer st
plain_move (expect.Namespace dot prefix) outer kind leaf st = at_namespace kind leaf dot prefix outer st
plain_move (expect.Base dot) outer kind leaf st = at_base kind leaf dot outer st
plain_move expect.DirectiveDot outer kind leaf st = at_dot kind outer st
plain_move (expect.Verb s) outer kind leaf st = at_verb kind leaf s outer st
plain_move (expect.AfterSemicolon s) outer kind leaf st = after_semicolon kind leaf s outer st
plain_move (expect.AfterObject s p) outer kind leaf st = after_object kind leaf s p outer st
plain_move (expect.AfterListed s) outer kind leaf st = after_listed kind leaf s outer st
plain_move (expect.Object s p) outer kind leaf st = begin_object kind (holes.Object s p) leaf outer st
plain_move (expect.Item chain) outer kind leaf st = in_collection kind leaf chain outer st
plain_move (expect.Property node) outer kind leaf st = in_brackets kind leaf node outer st
plain_move (expect.Datatype text hole) outer kind leaf st = typed_by (as_name kind leaf) leaf text hole outer st
plain_move (expect.Suffix text at hole) outer kind leaf st = stuck

-- whether a token can follow an object that fills a hole
abbrev pub follows : Hole → List Hole → TokenKind → Bool
follows (holes.Object s p) outer kinds.Comma = true
follows (holes.Object s p) outer kinds.Semicolon = true
follows (holes.Object s p) [] kinds.Dot = true
follows (holes.Object s p) (hole ∷ outer) kinds.CloseSquare = true
follows (holes.Item first node) outer kinds.CloseRound = true
follows (holes.Item first node) outer kind = begins_object kind
follows _ outer _ = false

-- on from where a move leads
abbrev pub onward : Move → TokenKind → Leaf → Move
onward (to c st) kind leaf = plain_move c.next c.outer kind leaf st
onward stuck kind leaf = stuck
onward (fails fault) kind leaf = fails fault

-- A string that waits has a language tag, a datatype, or neither: then it fills its hole before the token is judged.
abbrev pub after_string : TokenKind → Leaf → List ℕ → ℕ → Hole → List Hole → State → Move
after_string kinds.LanguageTag leaf text at hole outer st = filled hole leaf.at (terms.Literal text rdf_lang_string (tag_of leaf.text)) outer st
after_string kinds.DoubleCaret leaf text at hole outer st = to (config (expect.Datatype text hole) outer) st
after_string kind leaf text at hole outer st =
    if follows hole outer kind then onward (filled hole at (terms.Literal text xsd_string []) outer st) kind leaf else stuck

abbrev pub move_by : Expected → List Hole → TokenKind → Leaf → State → Move
move_by (expect.Suffix text at hole) outer kind leaf st = after_string kind leaf text at hole outer st
move_by next outer kind leaf st = plain_move next outer kind leaf st

-- the move at a token
abbrev pub move : Config → TokenKind → Leaf → State → Move
move c kind leaf st = move_by c.next c.outer kind leaf st
