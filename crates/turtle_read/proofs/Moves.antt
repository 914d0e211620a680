-- What each function of the moves is at each kind of token.
use Rattle.std.proofs.Common.{◌≡◌, ◌≢◌, ◌⊎◌, inl, inr, ℕ, Bool, true, false, cond, not, ◌==◌, List, [], ◌∷◌, Option, None, Some, Result, Ok, Err, refl, ap, sym, subst, ◌∙◌, length, ne_eqb, suc-ne-zero}
use Rattle.std.specs.Prelude.{codes}
use Rattle.std.specs.Str.{bytes_eq}
use Rattle.triple_store.specs.declared.term.Term.{Term}
use Rattle.triple_store.specs.declared.term.Term.TheVariants as terms
use Rattle.turtle_grammar.specs.Tree.{Leaf, Shorthand}
use Rattle.turtle_grammar.specs.Value.{prefix_of, tag_of, string_of}
use Rattle.turtle_grammar.specs.declared.token.TokenKind.{TokenKind}
use Rattle.turtle_grammar.specs.declared.token.TokenKind.TheVariants as kinds
use Rattle.turtle_document.specs.Vocabulary.{rdf_type, rdf_first, rdf_rest, rdf_nil, rdf_lang_string, xsd_string, datatype_of}
use Rattle.turtle_document.specs.Meaning as meaning
use Rattle.turtle_document.specs.Meaning.{Fault, State, Read, ◌>>=◌, bound, numbered, may_open, labelled}
use Rattle.turtle_document.specs.Machine as machine
use Rattle.turtle_document.specs.Machine.{Config, Move, config, on, listed, first_of, collection_of, after_iri, begins_object, onward, as_name, as_quoting, as_shorthand}
use Rattle.turtle_document.specs.Machine.Move.{to, stuck, fails}
use Rattle.turtle_document.specs.declared.expected.Chain.{Chain}
use Rattle.turtle_document.specs.declared.expected.Chain.TheVariants as chains
use Rattle.turtle_document.specs.declared.expected.Expected.{Expected}
use Rattle.turtle_document.specs.declared.expected.Expected.TheVariants as expect
use Rattle.turtle_document.specs.declared.expected.Hole.{Hole}
use Rattle.turtle_document.specs.declared.expected.Hole.TheVariants as holes
use Rattle.std.specs.Option.{option_map}
use Rattle.turtle_value.specs.Quotings.{quoting_of}
use Rattle.turtle_value.specs.declared.quoted.Quotes.{Quotes}
use Rattle.turtle_read.specs.Faults.{Stops}
use Rattle.turtle_read.specs.Names.{short_of}
use Rattle.turtle_read.specs.States.{with_prefix}
use Rattle.turtle_read.specs.declared.token_fault.TokenFault.{TokenFault}
use Rattle.turtle_read.specs.declared.token_fault.TokenFault.TheVariants.{Syntax, NoPrefix, BadIri, Depth, StoreFull, NoMemory}
use Rattle.turtle_read.proofs.Stops.{at_name, at_none, at_fault, started_at, not_started}
use Rattle.turtle_read.specs.Moves.{at_a, end_statement, absolute, based_on, add, named, filled, closed, begin_node, begin_resource, begin_short, begin_object, started_by, linked, ended, begin_item, in_collection, at_verb, at_end, after_object, after_semicolon, after_listed, in_brackets, at_directive, at_statement, at_prefix, at_namespace, at_base, at_dot, typed_by, plain_move, follows, after_string, move, IsOuter}

-- ---- holes

pub filled_subject : (at : ℕ) (term : Term) (outer : List Hole) (st : State) → filled holes.Subject at term outer st ≡ to (config (expect.Verb term) outer) st
unfolding filled
filled_subject at term outer st = refl

pub filled_listed : (at : ℕ) (term : Term) (outer : List Hole) (st : State) → filled holes.ListedSubject at term outer st ≡ to (config (expect.AfterListed term) outer) st
unfolding filled
filled_listed at term outer st = refl

pub filled_object : (s p : Term) (at : ℕ) (term : Term) (outer : List Hole) (st : State)
    → filled (holes.Object s p) at term outer st ≡ on (add at s p term st) (to (config (expect.AfterObject s p) outer))
unfolding filled add
filled_object s p at term outer st = refl

pub filled_item : (first node at : ℕ) (term : Term) (outer : List Hole) (st : State)
    → filled (holes.Item first node) at term outer st ≡ on (add at (terms.Blank node) (terms.Iri rdf_first) term st) (to (config (expect.Item (chains.Nodes first node)) outer))
unfolding filled add
filled_item first node at term outer st = refl

pub closed_none : (at : ℕ) (term : Term) (st : State) → closed at term [] st ≡ stuck
unfolding closed
closed_none at term st = refl

pub closed_some : (at : ℕ) (term : Term) (hole : Hole) (outer : List Hole) (st : State) → closed at term (hole ∷ outer) st ≡ filled hole at term outer st
unfolding closed filled
closed_some at term hole outer st = refl

-- ---- verbs

pub at_end_dot : (leaf : Leaf) (s : Term) (outer : List Hole) (st : State) → at_end kinds.Dot leaf s outer st ≡ end_statement outer st
unfolding at_end
at_end_dot leaf s [] st = refl
at_end_dot leaf s (hole ∷ outer) st = refl

pub at_end_close : (leaf : Leaf) (s : Term) (outer : List Hole) (st : State) → at_end kinds.CloseSquare leaf s outer st ≡ closed leaf.at s outer st
unfolding at_end closed
at_end_close leaf s [] st = refl
at_end_close leaf s (hole ∷ outer) st = refl

pub at_end_other : (kind : TokenKind) (leaf : Leaf) (s : Term) (outer : List Hole) (st : State) → kind ≢ kinds.Dot → kind ≢ kinds.CloseSquare → at_end kind leaf s outer st ≡ stuck
unfolding at_end
at_end_other kinds.Dot leaf s outer st n m = absurd (n refl)
at_end_other kinds.CloseSquare leaf s outer st n m = absurd (m refl)
at_end_other _ leaf s outer st n m = refl

pub after_object_comma : (leaf : Leaf) (s p : Term) (outer : List Hole) (st : State) → after_object kinds.Comma leaf s p outer st ≡ to (config (expect.Object s p) outer) st
unfolding after_object
after_object_comma leaf s p outer st = refl

pub after_object_semicolon : (leaf : Leaf) (s p : Term) (outer : List Hole) (st : State) → after_object kinds.Semicolon leaf s p outer st ≡ to (config (expect.AfterSemicolon s) outer) st
unfolding after_object
after_object_semicolon leaf s p outer st = refl

pub after_object_other : (kind : TokenKind) (leaf : Leaf) (s p : Term) (outer : List Hole) (st : State) → kind ≢ kinds.Comma → kind ≢ kinds.Semicolon → after_object kind leaf s p outer st ≡ at_end kind leaf s outer st
unfolding after_object at_end
after_object_other kinds.Comma leaf s p outer st n m = absurd (n refl)
after_object_other kinds.Semicolon leaf s p outer st n m = absurd (m refl)
after_object_other _ leaf s p outer st n m = refl

pub semicolon_again : (leaf : Leaf) (s : Term) (outer : List Hole) (st : State) → after_semicolon kinds.Semicolon leaf s outer st ≡ to (config (expect.AfterSemicolon s) outer) st
unfolding after_semicolon
semicolon_again leaf s outer st = refl

pub semicolon_dot : (leaf : Leaf) (s : Term) (outer : List Hole) (st : State) → after_semicolon kinds.Dot leaf s outer st ≡ at_end kinds.Dot leaf s outer st
unfolding after_semicolon at_end
semicolon_dot leaf s outer st = refl

pub semicolon_close : (leaf : Leaf) (s : Term) (outer : List Hole) (st : State) → after_semicolon kinds.CloseSquare leaf s outer st ≡ at_end kinds.CloseSquare leaf s outer st
unfolding after_semicolon at_end
semicolon_close leaf s outer st = refl

pub semicolon_other : (kind : TokenKind) (leaf : Leaf) (s : Term) (outer : List Hole) (st : State) → kind ≢ kinds.Semicolon → kind ≢ kinds.Dot → kind ≢ kinds.CloseSquare
    → after_semicolon kind leaf s outer st ≡ at_verb kind leaf s outer st
unfolding after_semicolon at_verb
semicolon_other kinds.Semicolon leaf s outer st n m o = absurd (n refl)
semicolon_other kinds.Dot leaf s outer st n m o = absurd (m refl)
semicolon_other kinds.CloseSquare leaf s outer st n m o = absurd (o refl)
semicolon_other _ leaf s outer st n m o = refl

pub listed_dot : (leaf : Leaf) (s : Term) (outer : List Hole) (st : State) → after_listed kinds.Dot leaf s outer st ≡ at_end kinds.Dot leaf s outer st
unfolding after_listed at_end
listed_dot leaf s outer st = refl

pub listed_close : (leaf : Leaf) (s : Term) (outer : List Hole) (st : State) → after_listed kinds.CloseSquare leaf s outer st ≡ at_end kinds.CloseSquare leaf s outer st
unfolding after_listed at_end
listed_close leaf s outer st = refl

pub listed_other : (kind : TokenKind) (leaf : Leaf) (s : Term) (outer : List Hole) (st : State) → kind ≢ kinds.Dot → kind ≢ kinds.CloseSquare → after_listed kind leaf s outer st ≡ at_verb kind leaf s outer st
unfolding after_listed at_verb
listed_other kinds.Dot leaf s outer st m o = absurd (m refl)
listed_other kinds.CloseSquare leaf s outer st m o = absurd (o refl)
listed_other _ leaf s outer st m o = refl

pub brackets_close : (leaf : Leaf) (node : ℕ) (outer : List Hole) (st : State) → in_brackets kinds.CloseSquare leaf node outer st ≡ closed leaf.at (terms.Blank node) outer st
unfolding in_brackets closed
brackets_close leaf node outer st = refl

pub brackets_other : (kind : TokenKind) (leaf : Leaf) (node : ℕ) (outer : List Hole) (st : State) → kind ≢ kinds.CloseSquare → in_brackets kind leaf node outer st ≡ at_verb kind leaf (terms.Blank node) (listed outer) st
unfolding in_brackets at_verb
brackets_other kinds.CloseSquare leaf node outer st n = absurd (n refl)
brackets_other _ leaf node outer st n = refl

-- a verb is a name, or `a`
pub verb_named : (kind : TokenKind) (leaf : Leaf) (s : Term) (outer : List Hole) (st : State) (iri : List ℕ) → named kind leaf st ≡ Ok (Some iri)
    → at_verb kind leaf s outer st ≡ to (config (expect.Object s (terms.Iri iri)) outer) st
unfolding named at_verb
verb_named kind leaf s outer st iri e = at_name st (λ n. machine.begin_verb n kind s outer st) (λ iri. to (config (expect.Object s (terms.Iri iri)) outer) st) (λ name. refl) (as_name kind leaf) iri e

pub verb_fault : (kind : TokenKind) (leaf : Leaf) (s : Term) (outer : List Hole) (st : State) (f : Fault) → named kind leaf st ≡ Err f → at_verb kind leaf s outer st ≡ fails f
unfolding named at_verb
verb_fault kind leaf s outer st f e = at_fault st (λ n. machine.begin_verb n kind s outer st) (λ iri. to (config (expect.Object s (terms.Iri iri)) outer) st) (λ name. refl) (as_name kind leaf) f e

pub verb_none : (kind : TokenKind) (leaf : Leaf) (s : Term) (outer : List Hole) (st : State) → named kind leaf st ≡ Ok None → at_verb kind leaf s outer st ≡ at_a kind s outer st
unfolding named at_verb at_a
verb_none kind leaf s outer st e = at_none st (λ n. machine.begin_verb n kind s outer st) (as_name kind leaf) e

pub a_word : (s : Term) (outer : List Hole) (st : State) → at_a kinds.A s outer st ≡ to (config (expect.Object s (terms.Iri rdf_type)) outer) st
unfolding at_a
a_word s outer st = refl

pub a_other : (kind : TokenKind) (s : Term) (outer : List Hole) (st : State) → kind ≢ kinds.A → at_a kind s outer st ≡ stuck
unfolding at_a
a_other kinds.A s outer st n = absurd (n refl)
a_other _ s outer st n = refl

-- ---- objects

pub quoted : (kind : TokenKind) (quotes : Quotes) (hole : Hole) (leaf : Leaf) (outer : List Hole) (st : State) (text : List ℕ)
    → option_map quoting_of (Some quotes) ≡ as_quoting kind → text ≡ string_of (quoting_of quotes) leaf.text
    → begin_object kind hole leaf outer st ≡ to (config (expect.Suffix text leaf.at hole) outer) st
unfolding begin_object
quoted kind quotes hole leaf outer st text e t =
    ap (λ o. machine.begin_by o kind hole leaf outer st) (sym e) ∙ ap (λ x. to (config (expect.Suffix x leaf.at hole) outer) st) (sym t)

pub not_quoted : (kind : TokenKind) (hole : Hole) (leaf : Leaf) (outer : List Hole) (st : State)
    → option_map quoting_of None ≡ as_quoting kind → begin_object kind hole leaf outer st ≡ begin_short kind hole leaf outer st
unfolding begin_object begin_short
not_quoted kind hole leaf outer st e = ap (λ o. machine.begin_by o kind hole leaf outer st) (sym e)

pub short : (kind : TokenKind) (hole : Hole) (leaf : Leaf) (outer : List Hole) (st : State) (term : Term)
    → Some term ≡ option_map (short_of leaf.text) (as_shorthand kind) → begin_short kind hole leaf outer st ≡ filled hole leaf.at term outer st
unfolding begin_short filled
short kind hole leaf outer st term e = by (as_shorthand kind) e
  where
    by : (o : Option Shorthand) → Some term ≡ option_map (short_of leaf.text) o → machine.begin_short o kind hole leaf outer st ≡ machine.filled hole leaf.at term outer st
    by None e = cc
    by (Some s) e = let same : short_of leaf.text s ≡ term = cc in ap (λ x. machine.filled hole leaf.at x outer st) same

pub not_short : (kind : TokenKind) (hole : Hole) (leaf : Leaf) (outer : List Hole) (st : State)
    → None ≡ option_map (short_of leaf.text) (as_shorthand kind) → begin_short kind hole leaf outer st ≡ begin_resource kind hole leaf outer st
unfolding begin_short begin_resource
not_short kind hole leaf outer st e = by (as_shorthand kind) e
  where
    by : (o : Option Shorthand) → None ≡ option_map (short_of leaf.text) o → machine.begin_short o kind hole leaf outer st ≡ machine.begin_resource (as_name kind leaf) kind hole leaf outer st
    by None e = refl
    by (Some s) e = cc

-- the literal by its parts
pub short_by : (o : Option Shorthand) (text d own : List ℕ) (term : Term) → Some d ≡ option_map datatype_of o → own ≡ text → term ≡ terms.Literal own d []
    → Some term ≡ option_map (short_of text) o
short_by None text d own term e t l = cc
short_by (Some s) text d own term e t l =
    let same : d ≡ datatype_of s = cc in ap Some (l ∙ ap (λ x. terms.Literal x d []) t ∙ ap (λ x. terms.Literal text x []) same)

pub no_short : (o : Option Shorthand) (text : List ℕ) → None ≡ option_map datatype_of o → None ≡ option_map (short_of text) o
no_short None text e = refl
no_short (Some s) text e = cc

pub resource_named : (kind : TokenKind) (hole : Hole) (leaf : Leaf) (outer : List Hole) (st : State) (iri : List ℕ) → named kind leaf st ≡ Ok (Some iri)
    → begin_resource kind hole leaf outer st ≡ filled hole leaf.at (terms.Iri iri) outer st
unfolding named begin_resource filled
resource_named kind hole leaf outer st iri e =
    at_name st (λ n. machine.begin_resource n kind hole leaf outer st) (λ iri. machine.filled hole leaf.at (terms.Iri iri) outer st) (λ name. refl) (as_name kind leaf) iri e

pub resource_fault : (kind : TokenKind) (hole : Hole) (leaf : Leaf) (outer : List Hole) (st : State) (f : Fault) → named kind leaf st ≡ Err f
    → begin_resource kind hole leaf outer st ≡ fails f
unfolding named begin_resource
resource_fault kind hole leaf outer st f e =
    at_fault st (λ n. machine.begin_resource n kind hole leaf outer st) (λ iri. machine.filled hole leaf.at (terms.Iri iri) outer st) (λ name. refl) (as_name kind leaf) f e

pub resource_none : (kind : TokenKind) (hole : Hole) (leaf : Leaf) (outer : List Hole) (st : State) → named kind leaf st ≡ Ok None
    → begin_resource kind hole leaf outer st ≡ begin_node kind hole leaf outer st
unfolding named begin_resource begin_node
resource_none kind hole leaf outer st e = at_none st (λ n. machine.begin_resource n kind hole leaf outer st) (as_name kind leaf) e

pub node_label : (hole : Hole) (leaf : Leaf) (outer : List Hole) (st after : State) (term : Term) → labelled leaf.text st ≡ meaning.read term after
    → begin_node kinds.BlankLabel hole leaf outer st ≡ filled hole leaf.at term outer after
unfolding begin_node filled
node_label hole leaf outer st after term e = ap (λ (r : Read). machine.filled hole leaf.at r.term outer r.state) e

pub node_square : (hole : Hole) (leaf : Leaf) (outer : List Hole) (st after : State) (node : ℕ)
    → may_open leaf.at (length outer) st ≡ Ok st → node ≡ st.blanks → after ≡ numbered st
    → begin_node kinds.OpenSquare hole leaf outer st ≡ to (config (expect.Property node) (hole ∷ outer)) after
unfolding begin_node
node_square hole leaf outer st after node e same next =
    ap (λ r. on r (λ here. to (config (expect.Property here.blanks) (hole ∷ outer)) (numbered here))) e
    ∙ ap (λ n. to (config (expect.Property n) (hole ∷ outer)) (numbered st)) (sym same)
    ∙ ap (λ s. to (config (expect.Property node) (hole ∷ outer)) s) (sym next)

pub node_square_fault : (hole : Hole) (leaf : Leaf) (outer : List Hole) (st : State) (f : Fault)
    → may_open leaf.at (length outer) st ≡ Err f → begin_node kinds.OpenSquare hole leaf outer st ≡ fails f
unfolding begin_node
node_square_fault hole leaf outer st f e = ap (λ r. on r (λ here. to (config (expect.Property here.blanks) (hole ∷ outer)) (numbered here))) e

pub node_round : (hole : Hole) (leaf : Leaf) (outer : List Hole) (st : State)
    → may_open leaf.at (length outer) st ≡ Ok st → begin_node kinds.OpenRound hole leaf outer st ≡ to (config (expect.Item chains.Empty) (hole ∷ outer)) st
unfolding begin_node
node_round hole leaf outer st e = ap (λ r. on r (to (config (expect.Item chains.Empty) (hole ∷ outer)))) e

pub node_round_fault : (hole : Hole) (leaf : Leaf) (outer : List Hole) (st : State) (f : Fault)
    → may_open leaf.at (length outer) st ≡ Err f → begin_node kinds.OpenRound hole leaf outer st ≡ fails f
unfolding begin_node
node_round_fault hole leaf outer st f e = ap (λ r. on r (to (config (expect.Item chains.Empty) (hole ∷ outer)))) e

pub node_other : (kind : TokenKind) (hole : Hole) (leaf : Leaf) (outer : List Hole) (st : State) → kind ≢ kinds.BlankLabel → kind ≢ kinds.OpenSquare → kind ≢ kinds.OpenRound
    → begin_node kind hole leaf outer st ≡ stuck
unfolding begin_node
node_other kinds.BlankLabel hole leaf outer st n m o = absurd (n refl)
node_other kinds.OpenSquare hole leaf outer st n m o = absurd (m refl)
node_other kinds.OpenRound hole leaf outer st n m o = absurd (o refl)
node_other _ hole leaf outer st n m o = refl

-- ---- statements

pub statement_tag : (leaf : Leaf) (outer : List Hole) (st : State) → at_statement kinds.LanguageTag leaf outer st ≡ at_directive leaf.text outer st
unfolding at_statement at_directive
statement_tag leaf outer st = refl

pub statement_prefix : (leaf : Leaf) (outer : List Hole) (st : State) → at_statement kinds.Prefix leaf outer st ≡ to (config (expect.Prefix false) outer) st
unfolding at_statement
statement_prefix leaf outer st = refl

pub statement_base : (leaf : Leaf) (outer : List Hole) (st : State) → at_statement kinds.Base leaf outer st ≡ to (config (expect.Base false) outer) st
unfolding at_statement
statement_base leaf outer st = refl

pub statement_other : (kind : TokenKind) (leaf : Leaf) (outer : List Hole) (st : State) → kind ≢ kinds.LanguageTag → kind ≢ kinds.Prefix → kind ≢ kinds.Base
    → at_statement kind leaf outer st ≡ begin_resource kind holes.Subject leaf outer st
unfolding at_statement begin_resource
statement_other kinds.LanguageTag leaf outer st n m o = absurd (n refl)
statement_other kinds.Prefix leaf outer st n m o = absurd (m refl)
statement_other kinds.Base leaf outer st n m o = absurd (o refl)
statement_other _ leaf outer st n m o = refl

-- ---- what has to come next

pub plain_statement : (outer : List Hole) (kind : TokenKind) (leaf : Leaf) (st : State) → plain_move expect.Statement outer kind leaf st ≡ at_statement kind leaf outer st
unfolding plain_move at_statement
plain_statement outer kind leaf st = refl

pub plain_prefix : (dot : Bool) (outer : List Hole) (kind : TokenKind) (leaf : Leaf) (st : State) → plain_move (expect.Prefix dot) outer kind leaf st ≡ at_prefix kind leaf dot outer st
unfolding plain_move at_prefix
plain_prefix dot outer kind leaf st = refl

pub plain_namespace : (dot : Bool) (prefix : List ℕ) (outer : List Hole) (kind : TokenKind) (leaf : Leaf) (st : State) → plain_move (expect.Namespace dot prefix) outer kind leaf st ≡ at_namespace kind leaf dot prefix outer st
unfolding plain_move at_namespace
plain_namespace dot prefix outer kind leaf st = refl

pub plain_base : (dot : Bool) (outer : List Hole) (kind : TokenKind) (leaf : Leaf) (st : State) → plain_move (expect.Base dot) outer kind leaf st ≡ at_base kind leaf dot outer st
unfolding plain_move at_base
plain_base dot outer kind leaf st = refl

pub plain_dot : (outer : List Hole) (kind : TokenKind) (leaf : Leaf) (st : State) → plain_move expect.DirectiveDot outer kind leaf st ≡ at_dot kind outer st
unfolding plain_move at_dot
plain_dot outer kind leaf st = refl

pub plain_verb : (s : Term) (outer : List Hole) (kind : TokenKind) (leaf : Leaf) (st : State) → plain_move (expect.Verb s) outer kind leaf st ≡ at_verb kind leaf s outer st
unfolding plain_move at_verb
plain_verb s outer kind leaf st = refl

pub plain_semicolon : (s : Term) (outer : List Hole) (kind : TokenKind) (leaf : Leaf) (st : State) → plain_move (expect.AfterSemicolon s) outer kind leaf st ≡ after_semicolon kind leaf s outer st
unfolding plain_move after_semicolon
plain_semicolon s outer kind leaf st = refl

pub plain_after : (s p : Term) (outer : List Hole) (kind : TokenKind) (leaf : Leaf) (st : State) → plain_move (expect.AfterObject s p) outer kind leaf st ≡ after_object kind leaf s p outer st
unfolding plain_move after_object
plain_after s p outer kind leaf st = refl

pub plain_listed : (s : Term) (outer : List Hole) (kind : TokenKind) (leaf : Leaf) (st : State) → plain_move (expect.AfterListed s) outer kind leaf st ≡ after_listed kind leaf s outer st
unfolding plain_move after_listed
plain_listed s outer kind leaf st = refl

pub plain_object : (s p : Term) (outer : List Hole) (kind : TokenKind) (leaf : Leaf) (st : State) → plain_move (expect.Object s p) outer kind leaf st ≡ begin_object kind (holes.Object s p) leaf outer st
unfolding plain_move begin_object
plain_object s p outer kind leaf st = refl

pub plain_item : (chain : Chain) (outer : List Hole) (kind : TokenKind) (leaf : Leaf) (st : State) → plain_move (expect.Item chain) outer kind leaf st ≡ in_collection kind leaf chain outer st
unfolding plain_move in_collection
plain_item chain outer kind leaf st = refl

pub plain_property : (node : ℕ) (outer : List Hole) (kind : TokenKind) (leaf : Leaf) (st : State) → plain_move (expect.Property node) outer kind leaf st ≡ in_brackets kind leaf node outer st
unfolding plain_move in_brackets
plain_property node outer kind leaf st = refl

pub plain_datatype : (text : List ℕ) (hole : Hole) (outer : List Hole) (kind : TokenKind) (leaf : Leaf) (st : State) → plain_move (expect.Datatype text hole) outer kind leaf st ≡ typed_by kind leaf text hole outer st
unfolding plain_move typed_by
plain_datatype text hole outer kind leaf st = refl

pub plain_suffix : (text : List ℕ) (at : ℕ) (hole : Hole) (outer : List Hole) (kind : TokenKind) (leaf : Leaf) (st : State) → plain_move (expect.Suffix text at hole) outer kind leaf st ≡ stuck
unfolding plain_move
plain_suffix text at hole outer kind leaf st = refl

pub move_string : (text : List ℕ) (at : ℕ) (hole : Hole) (outer : List Hole) (kind : TokenKind) (leaf : Leaf) (st : State)
    → move (config (expect.Suffix text at hole) outer) kind leaf st ≡ after_string kind leaf text at hole outer st
unfolding move after_string
move_string text at hole outer kind leaf st = refl

pub move_plain : (next : Expected) (outer : List Hole) (kind : TokenKind) (leaf : Leaf) (st : State)
    → ((text : List ℕ) (at : ℕ) (hole : Hole) → next ≢ expect.Suffix text at hole) → move (config next outer) kind leaf st ≡ plain_move next outer kind leaf st
unfolding move plain_move
move_plain (expect.Suffix text at hole) outer kind leaf st n = absurd (n text at hole refl)
move_plain _ outer kind leaf st n = refl

-- ---- strings

pub string_tag : (leaf : Leaf) (text : List ℕ) (at : ℕ) (hole : Hole) (outer : List Hole) (st : State) (lang : List ℕ) (term : Term)
    → lang ≡ tag_of leaf.text → term ≡ terms.Literal text rdf_lang_string lang
    → after_string kinds.LanguageTag leaf text at hole outer st ≡ filled hole leaf.at term outer st
unfolding after_string filled
string_tag leaf text at hole outer st lang term l t =
    ap (λ x. machine.filled hole leaf.at (terms.Literal text rdf_lang_string x) outer st) (sym l) ∙ ap (λ x. machine.filled hole leaf.at x outer st) (sym t)

pub string_caret : (leaf : Leaf) (text : List ℕ) (at : ℕ) (hole : Hole) (outer : List Hole) (st : State)
    → after_string kinds.DoubleCaret leaf text at hole outer st ≡ to (config (expect.Datatype text hole) outer) st
unfolding after_string
string_caret leaf text at hole outer st = refl

-- on from where a string has filled its hole
abbrev pub go_on : Move → TokenKind → Leaf → Move
go_on (to c st) kind leaf = plain_move c.next c.outer kind leaf st
go_on stuck kind leaf = stuck
go_on (fails f) kind leaf = fails f

same_on : (m : Move) (kind : TokenKind) (leaf : Leaf) → onward m kind leaf ≡ go_on m kind leaf
unfolding plain_move
same_on (to c st) kind leaf = refl
same_on stuck kind leaf = refl
same_on (fails f) kind leaf = refl

pub string_other : (kind : TokenKind) (leaf : Leaf) (text : List ℕ) (at : ℕ) (hole : Hole) (outer : List Hole) (st : State)
    → kind ≢ kinds.LanguageTag → kind ≢ kinds.DoubleCaret
    → after_string kind leaf text at hole outer st ≡ cond (follows hole outer kind) (go_on (filled hole at (terms.Literal text xsd_string []) outer st) kind leaf) stuck
unfolding after_string follows filled
string_other kind leaf text at hole outer st n m =
    plainly kind n m ∙ ap (λ x. cond (machine.follows hole outer kind) x stuck) (same_on (machine.filled hole at (terms.Literal text xsd_string []) outer st) kind leaf)
  where
    plainly : (kind : TokenKind) → kind ≢ kinds.LanguageTag → kind ≢ kinds.DoubleCaret
        → machine.after_string kind leaf text at hole outer st ≡ cond (machine.follows hole outer kind) (onward (machine.filled hole at (terms.Literal text xsd_string []) outer st) kind leaf) stuck
    plainly kinds.LanguageTag n m = absurd (n refl)
    plainly kinds.DoubleCaret n m = absurd (m refl)
    plainly _ n m = refl

-- a string alone, and on with the token
pub string_on : (kind : TokenKind) (leaf : Leaf) (text : List ℕ) (at : ℕ) (hole : Hole) (outer : List Hole) (st : State) (term : Term)
    → kind ≢ kinds.LanguageTag → kind ≢ kinds.DoubleCaret → follows hole outer kind ≡ true → term ≡ terms.Literal text xsd_string []
    → after_string kind leaf text at hole outer st ≡ go_on (filled hole at term outer st) kind leaf
string_on kind leaf text at hole outer st term n m e t =
    string_other kind leaf text at hole outer st n m
    ∙ ap (λ b. cond b (go_on (filled hole at (terms.Literal text xsd_string []) outer st) kind leaf) stuck) e
    ∙ ap (λ x. go_on (filled hole at x outer st) kind leaf) (sym t)

pub string_off : (kind : TokenKind) (leaf : Leaf) (text : List ℕ) (at : ℕ) (hole : Hole) (outer : List Hole) (st : State)
    → kind ≢ kinds.LanguageTag → kind ≢ kinds.DoubleCaret → follows hole outer kind ≡ false → after_string kind leaf text at hole outer st ≡ stuck
string_off kind leaf text at hole outer st n m e =
    string_other kind leaf text at hole outer st n m ∙ ap (λ b. cond b (go_on (filled hole at (terms.Literal text xsd_string []) outer st) kind leaf) stuck) e

-- a fault of a string's hole is one of the whole
pub stops_going : (at : ℕ) (fault : TokenFault) (m : Move) (kind : TokenKind) (leaf : Leaf) → Stops at fault m → Stops at fault (go_on m kind leaf)
stops_going at (Syntax place) m kind leaf h = (h.0, ap (λ x. go_on x kind leaf) h.1)
stops_going at (NoPrefix place) m kind leaf h = ap (λ x. go_on x kind leaf) h
stops_going at (BadIri place) m kind leaf h = ap (λ x. go_on x kind leaf) h
stops_going at (Depth place) m kind leaf h = ap (λ x. go_on x kind leaf) h
stops_going at (StoreFull place) m kind leaf h = ap (λ x. go_on x kind leaf) h
stops_going at NoMemory m kind leaf h = tt

-- a fault at an equal move
pub stops_as : (at : ℕ) (fault : TokenFault) (m n : Move) → n ≡ m → Stops at fault m → Stops at fault n
stops_as at fault m n e h = let P : Move → Type 0 = λ v. Stops at fault v in subst P (sym e) h

-- ---- what follows an object

pub follows_more : (s p : Term) (outer : List Hole) (kind : TokenKind) → (kind ≡ kinds.Comma) ⊎ (kind ≡ kinds.Semicolon) → follows (holes.Object s p) outer kind ≡ true
unfolding follows
follows_more s p outer kind (inl e) = ap (machine.follows (holes.Object s p) outer) e
follows_more s p outer kind (inr e) = ap (machine.follows (holes.Object s p) outer) e

pub follows_dot : (s p : Term) (outer : List Hole) → follows (holes.Object s p) outer kinds.Dot ≡ (length outer == 0)
unfolding follows
follows_dot s p [] = refl
follows_dot s p (hole ∷ outer) = sym (ne_eqb (length (hole ∷ outer)) 0 (suc-ne-zero (length outer)))

pub follows_close : (s p : Term) (outer : List Hole) → follows (holes.Object s p) outer kinds.CloseSquare ≡ not (length outer == 0)
unfolding follows
follows_close s p [] = refl
follows_close s p (hole ∷ outer) = sym (ap not (ne_eqb (length (hole ∷ outer)) 0 (suc-ne-zero (length outer))))

pub follows_not : (s p : Term) (outer : List Hole) (kind : TokenKind) → kind ≢ kinds.Comma → kind ≢ kinds.Semicolon → kind ≢ kinds.Dot → kind ≢ kinds.CloseSquare
    → follows (holes.Object s p) outer kind ≡ false
unfolding follows
follows_not s p outer kinds.Comma c d e f = absurd (c refl)
follows_not s p outer kinds.Semicolon c d e f = absurd (d refl)
follows_not s p outer kinds.Dot c d e f = absurd (e refl)
follows_not s p outer kinds.CloseSquare c d e f = absurd (f refl)
follows_not s p outer _ c d e f = refl

pub follows_last : (first node : ℕ) (outer : List Hole) → follows (holes.Item first node) outer kinds.CloseRound ≡ true
unfolding follows
follows_last first node outer = refl

pub follows_item : (first node : ℕ) (outer : List Hole) (kind : TokenKind) → kind ≢ kinds.CloseRound → follows (holes.Item first node) outer kind ≡ begins_object kind
unfolding follows
follows_item first node outer kinds.CloseRound n = absurd (n refl)
follows_item first node outer _ n = refl

pub follows_subject : (hole : Hole) (outer : List Hole) (kind : TokenKind) → (hole ≡ holes.Subject) ⊎ (hole ≡ holes.ListedSubject) → follows hole outer kind ≡ false
unfolding follows
follows_subject hole outer kind (inl e) = ap (λ h. machine.follows h outer kind) e
follows_subject hole outer kind (inr e) = ap (λ h. machine.follows h outer kind) e

-- ---- datatypes

pub typed_named : (kind : TokenKind) (leaf : Leaf) (text : List ℕ) (hole : Hole) (outer : List Hole) (st : State) (iri : List ℕ) (term : Term)
    → named kind leaf st ≡ Ok (Some iri) → term ≡ terms.Literal text iri [] → typed_by kind leaf text hole outer st ≡ filled hole leaf.at term outer st
unfolding named typed_by filled
typed_named kind leaf text hole outer st iri term e t =
    at_name st (λ n. machine.typed_by n leaf text hole outer st) (λ iri. machine.filled hole leaf.at (terms.Literal text iri []) outer st) (λ name. refl) (as_name kind leaf) iri e
    ∙ ap (λ x. machine.filled hole leaf.at x outer st) (sym t)

pub typed_fault : (kind : TokenKind) (leaf : Leaf) (text : List ℕ) (hole : Hole) (outer : List Hole) (st : State) (f : Fault)
    → named kind leaf st ≡ Err f → typed_by kind leaf text hole outer st ≡ fails f
unfolding named typed_by
typed_fault kind leaf text hole outer st f e =
    at_fault st (λ n. machine.typed_by n leaf text hole outer st) (λ iri. machine.filled hole leaf.at (terms.Literal text iri []) outer st) (λ name. refl) (as_name kind leaf) f e

pub typed_none : (kind : TokenKind) (leaf : Leaf) (text : List ℕ) (hole : Hole) (outer : List Hole) (st : State)
    → named kind leaf st ≡ Ok None → typed_by kind leaf text hole outer st ≡ stuck
unfolding named typed_by
typed_none kind leaf text hole outer st e = at_none st (λ n. machine.typed_by n leaf text hole outer st) (as_name kind leaf) e

-- ---- collections

pub started_open : (kind : TokenKind) (leaf : Leaf) (n : ℕ) (st : State) → (kind ≡ kinds.OpenSquare) ⊎ (kind ≡ kinds.OpenRound)
    → started_by kind leaf n st ≡ may_open leaf.at n st
unfolding started_by
started_open kind leaf n st (inl e) = ap (λ k. machine.started_by k leaf n st) e
started_open kind leaf n st (inr e) = ap (λ k. machine.started_by k leaf n st) e

-- a token that opens no bracket has the fault of its IRI, if it is a name that has one
started_plain : (kind : TokenKind) (leaf : Leaf) (n : ℕ) (st : State) → kind ≢ kinds.OpenSquare → kind ≢ kinds.OpenRound
    → machine.started_by kind leaf n st ≡ machine.started_name (as_name kind leaf) st
started_plain kinds.OpenSquare leaf n st s r = absurd (s refl)
started_plain kinds.OpenRound leaf n st s r = absurd (r refl)
started_plain _ leaf n st s r = refl

pub started_named : (kind : TokenKind) (leaf : Leaf) (n : ℕ) (st : State) (iri : Option (List ℕ)) → kind ≢ kinds.OpenSquare → kind ≢ kinds.OpenRound
    → named kind leaf st ≡ Ok iri → started_by kind leaf n st ≡ Ok st
unfolding named started_by
started_named kind leaf n st iri s r e = started_plain kind leaf n st s r ∙ started_at st iri (as_name kind leaf) e

pub started_fault : (kind : TokenKind) (leaf : Leaf) (n : ℕ) (st : State) (f : Fault) → kind ≢ kinds.OpenSquare → kind ≢ kinds.OpenRound
    → named kind leaf st ≡ Err f → started_by kind leaf n st ≡ Err f
unfolding named started_by
started_fault kind leaf n st f s r e = started_plain kind leaf n st s r ∙ not_started st f (as_name kind leaf) e

pub link_none : (at node : ℕ) (st : State) → linked chains.Empty at node st ≡ Ok st
unfolding linked
link_none at node st = refl

pub link_last : (first last at node : ℕ) (st : State) → linked (chains.Nodes first last) at node st ≡ add at (terms.Blank last) (terms.Iri rdf_rest) (terms.Blank node) st
unfolding linked add
link_last first last at node st = refl

pub end_none : (at : ℕ) (st : State) → ended chains.Empty at st ≡ Ok st
unfolding ended
end_none at st = refl

pub end_last : (first last at : ℕ) (st : State) → ended (chains.Nodes first last) at st ≡ add at (terms.Blank last) (terms.Iri rdf_rest) (terms.Iri rdf_nil) st
unfolding ended add
end_last first last at st = refl

pub collection_close : (leaf : Leaf) (chain : Chain) (outer : List Hole) (st after : State) (term : Term) → ended chain leaf.at st ≡ Ok after → term ≡ collection_of chain
    → in_collection kinds.CloseRound leaf chain outer st ≡ closed leaf.at term outer after
unfolding ended in_collection closed
collection_close leaf chain outer st after term e t =
    ap (λ r. on r (machine.closed leaf.at (collection_of chain) outer)) e ∙ ap (λ x. machine.closed leaf.at x outer after) (sym t)

pub collection_fault : (leaf : Leaf) (chain : Chain) (outer : List Hole) (st : State) (f : Fault) → ended chain leaf.at st ≡ Err f
    → in_collection kinds.CloseRound leaf chain outer st ≡ fails f
unfolding ended in_collection
collection_fault leaf chain outer st f e = ap (λ r. on r (machine.closed leaf.at (collection_of chain) outer)) e

pub collection_other : (kind : TokenKind) (leaf : Leaf) (chain : Chain) (outer : List Hole) (st : State) (b : Bool) → kind ≢ kinds.CloseRound → begins_object kind ≡ b
    → in_collection kind leaf chain outer st ≡ cond b (begin_item kind leaf chain outer st) stuck
unfolding in_collection begin_item
collection_other kind leaf chain outer st b n e = plainly kind n ∙ ap (λ v. cond v (machine.begin_item kind leaf chain outer st) stuck) e
  where
    plainly : (kind : TokenKind) → kind ≢ kinds.CloseRound → machine.in_collection kind leaf chain outer st ≡ cond (begins_object kind) (machine.begin_item kind leaf chain outer st) stuck
    plainly kinds.CloseRound n = absurd (n refl)
    plainly _ n = refl

-- the rest of an item after its token's first judgement
abbrev itemed : TokenKind → Leaf → Chain → List Hole → State → Move
itemed kind leaf chain outer here =
    on (meaning.linked (machine.last_of chain) leaf.at here.blanks (numbered here)) (λ inside. machine.begin_object kind (holes.Item (first_of chain here.blanks) here.blanks) leaf outer inside)

pub item_fault : (kind : TokenKind) (leaf : Leaf) (chain : Chain) (outer : List Hole) (st : State) (f : Fault) → started_by kind leaf (length outer) st ≡ Err f
    → begin_item kind leaf chain outer st ≡ fails f
unfolding started_by begin_item
item_fault kind leaf chain outer st f e = ap (λ r. on r (itemed kind leaf chain outer)) e

pub item_linked : (kind : TokenKind) (leaf : Leaf) (chain : Chain) (outer : List Hole) (st mid inside : State) (node : ℕ)
    → started_by kind leaf (length outer) st ≡ Ok st → node ≡ st.blanks → mid ≡ numbered st → linked chain leaf.at node mid ≡ Ok inside
    → begin_item kind leaf chain outer st ≡ begin_object kind (holes.Item (first_of chain node) node) leaf outer inside
unfolding started_by begin_item linked begin_object
item_linked kind leaf chain outer st mid inside node e same next link =
    ap (λ r. on r (itemed kind leaf chain outer)) e
    ∙ ap (λ n. on (meaning.linked (machine.last_of chain) leaf.at n (numbered st)) (λ inside. machine.begin_object kind (holes.Item (first_of chain n) n) leaf outer inside)) (sym same)
    ∙ ap (λ s. on (meaning.linked (machine.last_of chain) leaf.at node s) (λ inside. machine.begin_object kind (holes.Item (first_of chain node) node) leaf outer inside)) (sym next)
    ∙ ap (λ r. on r (λ inside. machine.begin_object kind (holes.Item (first_of chain node) node) leaf outer inside)) link

pub item_link_fault : (kind : TokenKind) (leaf : Leaf) (chain : Chain) (outer : List Hole) (st mid : State) (node : ℕ) (f : Fault)
    → started_by kind leaf (length outer) st ≡ Ok st → node ≡ st.blanks → mid ≡ numbered st → linked chain leaf.at node mid ≡ Err f
    → begin_item kind leaf chain outer st ≡ fails f
unfolding started_by begin_item linked
item_link_fault kind leaf chain outer st mid node f e same next link =
    ap (λ r. on r (itemed kind leaf chain outer)) e
    ∙ ap (λ n. on (meaning.linked (machine.last_of chain) leaf.at n (numbered st)) (λ inside. machine.begin_object kind (holes.Item (first_of chain n) n) leaf outer inside)) (sym same)
    ∙ ap (λ s. on (meaning.linked (machine.last_of chain) leaf.at node s) (λ inside. machine.begin_object kind (holes.Item (first_of chain node) node) leaf outer inside)) (sym next)
    ∙ ap (λ r. on r (λ inside. machine.begin_object kind (holes.Item (first_of chain node) node) leaf outer inside)) link

-- ---- directives

pub directive_prefix : (text : List ℕ) (outer : List Hole) (st : State) → bytes_eq text (codes "@prefix") ≡ true → at_directive text outer st ≡ to (config (expect.Prefix true) outer) st
unfolding at_directive
directive_prefix text outer st e = ap (λ b. cond b (to (config (expect.Prefix true) outer) st) (cond (bytes_eq text (codes "@base")) (to (config (expect.Base true) outer) st) stuck)) e

pub directive_base : (text : List ℕ) (outer : List Hole) (st : State) → bytes_eq text (codes "@prefix") ≡ false → bytes_eq text (codes "@base") ≡ true
    → at_directive text outer st ≡ to (config (expect.Base true) outer) st
unfolding at_directive
directive_base text outer st e b =
    ap (λ v. cond v (to (config (expect.Prefix true) outer) st) (cond (bytes_eq text (codes "@base")) (to (config (expect.Base true) outer) st) stuck)) e
    ∙ ap (λ v. cond v (to (config (expect.Base true) outer) st) stuck) b

pub directive_other : (text : List ℕ) (outer : List Hole) (st : State) → bytes_eq text (codes "@prefix") ≡ false → bytes_eq text (codes "@base") ≡ false
    → at_directive text outer st ≡ stuck
unfolding at_directive
directive_other text outer st e b =
    ap (λ v. cond v (to (config (expect.Prefix true) outer) st) (cond (bytes_eq text (codes "@base")) (to (config (expect.Base true) outer) st) stuck)) e
    ∙ ap (λ v. cond v (to (config (expect.Base true) outer) st) stuck) b

pub base_iri : (leaf : Leaf) (dot : Bool) (outer : List Hole) (st after : State) (next : Expected) → based_on leaf st ≡ Ok after → next ≡ after_iri dot
    → at_base kinds.Iri leaf dot outer st ≡ to (config next outer) after
unfolding based_on at_base
base_iri leaf dot outer st after next e n = by (meaning.absolute st.base leaf) e ∙ ap (λ x. to (config x outer) after) (sym n)
  where
    by : (r : Result (List ℕ) Fault) → (r >>= (λ (value : List ℕ). Ok (record st { base = value }))) ≡ Ok after
        → on r (λ value. to (config (after_iri dot) outer) (record st { base = value })) ≡ to (config (after_iri dot) outer) after
    by (Ok value) e = let same : record st { base = value } ≡ after = cc in ap (to (config (after_iri dot) outer)) same
    by (Err f) e = cc

pub base_fault : (leaf : Leaf) (dot : Bool) (outer : List Hole) (st : State) (f : Fault) → based_on leaf st ≡ Err f → at_base kinds.Iri leaf dot outer st ≡ fails f
unfolding based_on at_base
base_fault leaf dot outer st f e = by (meaning.absolute st.base leaf) e
  where
    by : (r : Result (List ℕ) Fault) → (r >>= (λ (value : List ℕ). Ok (record st { base = value }))) ≡ Err f
        → on r (λ value. to (config (after_iri dot) outer) (record st { base = value })) ≡ fails f
    by (Ok value) e = cc
    by (Err g) e = let same : g ≡ f = cc in ap fails same

pub base_other : (kind : TokenKind) (leaf : Leaf) (dot : Bool) (outer : List Hole) (st : State) → kind ≢ kinds.Iri → at_base kind leaf dot outer st ≡ stuck
unfolding at_base
base_other kinds.Iri leaf dot outer st n = absurd (n refl)
base_other _ leaf dot outer st n = refl

pub namespace_iri : (leaf : Leaf) (dot : Bool) (prefix : List ℕ) (outer : List Hole) (st after : State) (value : List ℕ) (next : Expected)
    → absolute st.base leaf ≡ Ok value → after ≡ with_prefix prefix value st → next ≡ after_iri dot
    → at_namespace kinds.Iri leaf dot prefix outer st ≡ to (config next outer) after
unfolding absolute at_namespace
namespace_iri leaf dot prefix outer st after value next e a n =
    ap (λ r. on r (λ value. to (config (after_iri dot) outer) (with_prefix prefix value st))) e
    ∙ ap (λ x. to (config x outer) (with_prefix prefix value st)) (sym n) ∙ ap (to (config next outer)) (sym a)

pub namespace_fault : (leaf : Leaf) (dot : Bool) (prefix : List ℕ) (outer : List Hole) (st : State) (f : Fault) → absolute st.base leaf ≡ Err f
    → at_namespace kinds.Iri leaf dot prefix outer st ≡ fails f
unfolding absolute at_namespace
namespace_fault leaf dot prefix outer st f e = ap (λ r. on r (λ value. to (config (after_iri dot) outer) (with_prefix prefix value st))) e

pub namespace_other : (kind : TokenKind) (leaf : Leaf) (dot : Bool) (prefix : List ℕ) (outer : List Hole) (st : State) → kind ≢ kinds.Iri → at_namespace kind leaf dot prefix outer st ≡ stuck
unfolding at_namespace
namespace_other kinds.Iri leaf dot prefix outer st n = absurd (n refl)
namespace_other _ leaf dot prefix outer st n = refl

pub prefix_namespace : (leaf : Leaf) (dot : Bool) (outer : List Hole) (st : State) (prefix : List ℕ) → prefix ≡ prefix_of leaf.text
    → at_prefix kinds.Namespace leaf dot outer st ≡ to (config (expect.Namespace dot prefix) outer) st
unfolding at_prefix
prefix_namespace leaf dot outer st prefix e = ap (λ x. to (config (expect.Namespace dot x) outer) st) (sym e)

pub prefix_other : (kind : TokenKind) (leaf : Leaf) (dot : Bool) (outer : List Hole) (st : State) → kind ≢ kinds.Namespace → at_prefix kind leaf dot outer st ≡ stuck
unfolding at_prefix
prefix_other kinds.Namespace leaf dot outer st n = absurd (n refl)
prefix_other _ leaf dot outer st n = refl

pub dot_ends : (outer : List Hole) (st : State) → at_dot kinds.Dot outer st ≡ to (config expect.Statement outer) st
unfolding at_dot
dot_ends outer st = refl

pub dot_other : (kind : TokenKind) (outer : List Hole) (st : State) → kind ≢ kinds.Dot → at_dot kind outer st ≡ stuck
unfolding at_dot
dot_other kinds.Dot outer st n = absurd (n refl)
dot_other _ outer st n = refl

-- what is none of the others
pub is_outer : (next : Expected) → ((s : Term) → next ≢ expect.Verb s) → ((s : Term) → next ≢ expect.AfterSemicolon s) → ((s p : Term) → next ≢ expect.AfterObject s p)
    → ((s : Term) → next ≢ expect.AfterListed s) → ((s p : Term) → next ≢ expect.Object s p) → ((chain : Chain) → next ≢ expect.Item chain)
    → ((node : ℕ) → next ≢ expect.Property node) → ((text : List ℕ) (hole : Hole) → next ≢ expect.Datatype text hole) → IsOuter next
is_outer (expect.Verb s) a b c d e f g h = absurd (a s refl)
is_outer (expect.AfterSemicolon s) a b c d e f g h = absurd (b s refl)
is_outer (expect.AfterObject s p) a b c d e f g h = absurd (c s p refl)
is_outer (expect.AfterListed s) a b c d e f g h = absurd (d s refl)
is_outer (expect.Object s p) a b c d e f g h = absurd (e s p refl)
is_outer (expect.Item chain) a b c d e f g h = absurd (f chain refl)
is_outer (expect.Property node) a b c d e f g h = absurd (g node refl)
is_outer (expect.Datatype text hole) a b c d e f g h = absurd (h text hole refl)
is_outer _ a b c d e f g h = tt

pub outer_waits : (next : Expected) (outer : List Hole) (kind : TokenKind) (leaf : Leaf) (st : State) → IsOuter next → next ≢ expect.Statement → ((dot : Bool) → next ≢ expect.Prefix dot)
    → ((dot : Bool) (prefix : List ℕ) → next ≢ expect.Namespace dot prefix) → ((dot : Bool) → next ≢ expect.Base dot) → next ≢ expect.DirectiveDot
    → plain_move next outer kind leaf st ≡ stuck
unfolding plain_move
outer_waits expect.Statement outer kind leaf st o a b c d e = absurd (a refl)
outer_waits (expect.Prefix dot) outer kind leaf st o a b c d e = absurd (b dot refl)
outer_waits (expect.Namespace dot prefix) outer kind leaf st o a b c d e = absurd (c dot prefix refl)
outer_waits (expect.Base dot) outer kind leaf st o a b c d e = absurd (d dot refl)
outer_waits expect.DirectiveDot outer kind leaf st o a b c d e = absurd (e refl)
outer_waits (expect.Suffix text at hole) outer kind leaf st o a b c d e = refl
outer_waits _ outer kind leaf st o a b c d e = absurd o
