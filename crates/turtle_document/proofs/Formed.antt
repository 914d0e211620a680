-- Where a reader can stand, and that its moves lead there.
use Rattle.std.proofs.Common.{◌≡◌, ℕ, Bool, true, false, List, [], ◌∷◌, length, Option, Some, None, Result, Ok, Err, if◌then◌else◌, codes, subst}
use Rattle.std.specs.Str.{bytes_eq}
use Rattle.triple_store.specs.declared.term.Term.{Term}
use Rattle.triple_store.specs.declared.term.Term.TheVariants as terms
use Rattle.turtle_grammar.specs.declared.token.TokenKind.{TokenKind}
use Rattle.turtle_grammar.specs.declared.token.TokenKind.TheVariants as kinds
use Rattle.turtle_grammar.specs.Tree.{Leaf, Name, Quoting, Shorthand}
use Rattle.turtle_grammar.specs.Value.{tag_of}
use Rattle.turtle_document.specs.Vocabulary.{rdf_first, rdf_lang_string, xsd_string, datatype_of}
use Rattle.turtle_document.specs.Meaning.{Fault, State, may_open, numbered, labelled, add, name_of, absolute, bound, linked, ended}
use Rattle.turtle_document.specs.Machine.{Config, config, Move, on, filled, closed, as_name, as_quoting, as_shorthand, begin_node, begin_resource, begin_short, begin_by, begin_object, begins_object, started_by, begin_item, in_collection, last_of, first_of, collection_of, begin_verb, at_verb, at_end, after_object, after_semicolon, after_listed, listed, in_brackets, at_directive, at_statement, at_prefix, after_iri, at_namespace, at_base, at_dot, typed_by, plain_move, follows, onward, after_string, move_by, move}
use Rattle.turtle_document.specs.Machine.Move.{to, stuck, fails}
use Rattle.turtle_document.specs.declared.expected.Hole.{Hole}
use Rattle.turtle_document.specs.declared.expected.Hole.TheVariants as holes
use Rattle.turtle_document.specs.declared.expected.Chain.{Chain}
use Rattle.turtle_document.specs.declared.expected.Chain.TheVariants as chains
use Rattle.turtle_document.specs.declared.expected.Expected.{Expected}
use Rattle.turtle_document.specs.declared.expected.Expected.TheVariants as expect
use Rattle.turtle_document.proofs.Objects.{IsInner}

-- An item stands in brackets.
abbrev pub Fits : Hole → List Hole → Type 0
Fits holes.Subject outer = Unit {0}
Fits holes.ListedSubject outer = Unit {0}
Fits (holes.Object s p) outer = Unit {0}
Fits (holes.Item first node) [] = ⊥
Fits (holes.Item first node) (hole ∷ outer) = Unit {0}

abbrev pub IsWell : List Hole → Type 0
IsWell [] = Unit {0}
IsWell (hole ∷ outer) = Fits hole outer × IsWell outer

-- some bracket is open
abbrev pub IsInside : List Hole → Type 0
IsInside [] = ⊥
IsInside (hole ∷ outer) = IsWell (hole ∷ outer)

-- none is
abbrev pub IsOutside : List Hole → Type 0
IsOutside [] = Unit {0}
IsOutside (hole ∷ outer) = ⊥

abbrev pub IsFormedBy : Expected → List Hole → Type 0
IsFormedBy expect.Statement outer = IsOutside outer
IsFormedBy (expect.Prefix dot) outer = IsOutside outer
IsFormedBy (expect.Namespace dot prefix) outer = IsOutside outer
IsFormedBy (expect.Base dot) outer = IsOutside outer
IsFormedBy expect.DirectiveDot outer = IsOutside outer
IsFormedBy (expect.Verb s) outer = IsWell outer
IsFormedBy (expect.AfterSemicolon s) outer = IsWell outer
IsFormedBy (expect.AfterObject s p) outer = IsWell outer
IsFormedBy (expect.AfterListed s) outer = IsWell outer
IsFormedBy (expect.Object s p) outer = IsWell outer
IsFormedBy (expect.Item chain) outer = IsInside outer
IsFormedBy (expect.Property node) outer = IsInside outer
IsFormedBy (expect.Suffix text at hole) outer = IsInner hole × IsWell (hole ∷ outer)
IsFormedBy (expect.Datatype text hole) outer = IsWell (hole ∷ outer)

-- where a reader can stand
abbrev pub IsFormed : Config → Type 0
IsFormed c = IsFormedBy c.next c.outer

-- where a move leads a reader can stand
abbrev pub LeadsWell : Move → Type 0
LeadsWell (to c st) = IsFormed c
LeadsWell stuck = Unit {0}
LeadsWell (fails f) = Unit {0}

on_well : {A : Type 0} (r : Result A Fault) (f : A → Move) → ((a : A) → LeadsWell (f a)) → LeadsWell (on r f)
on_well (Ok a) f h = h a
on_well (Err fault) f h = tt

if_well : (b : Bool) (m other : Move) → LeadsWell m → LeadsWell other → LeadsWell (if b then m else other)
if_well true m other h k = h
if_well false m other h k = k

filled_well : (hole : Hole) (at : ℕ) (term : Term) (outer : List Hole) (st : State) → IsWell (hole ∷ outer) → LeadsWell (filled hole at term outer st)
filled_well holes.Subject at term outer st w = w.1
filled_well holes.ListedSubject at term outer st w = w.1
filled_well (holes.Object s p) at term outer st w = on_well (add at s p term st) (to (config (expect.AfterObject s p) outer)) (λ after. w.1)
filled_well (holes.Item first node) at term [] st w = absurd w.0
filled_well (holes.Item first node) at term (hole ∷ outer) st w =
    on_well (add at (terms.Blank node) (terms.Iri rdf_first) term st) (to (config (expect.Item (chains.Nodes first node)) (hole ∷ outer))) (λ after. w.1)

closed_well : (at : ℕ) (term : Term) (outer : List Hole) (st : State) → IsWell outer → LeadsWell (closed at term outer st)
closed_well at term [] st w = tt
closed_well at term (hole ∷ outer) st w = filled_well hole at term outer st w

inside_well : (outer : List Hole) → IsInside outer → IsWell outer
inside_well [] i = absurd i
inside_well (hole ∷ outer) i = i

node_well : (kind : TokenKind) (hole : Hole) (leaf : Leaf) (outer : List Hole) (st : State) → IsWell (hole ∷ outer) → LeadsWell (begin_node kind hole leaf outer st)
node_well kinds.BlankLabel hole leaf outer st w = filled_well hole leaf.at (labelled leaf.text st).term outer (labelled leaf.text st).state w
node_well kinds.OpenSquare hole leaf outer st w =
    on_well (may_open leaf.at (length outer) st) (λ here. to (config (expect.Property here.blanks) (hole ∷ outer)) (numbered here)) (λ here. w)
node_well kinds.OpenRound hole leaf outer st w =
    on_well (may_open leaf.at (length outer) st) (to (config (expect.Item chains.Empty) (hole ∷ outer))) (λ here. w)
node_well kind hole leaf outer st w = tt

resource_well : (name : Option Name) (kind : TokenKind) (hole : Hole) (leaf : Leaf) (outer : List Hole) (st : State) → IsWell (hole ∷ outer)
    → LeadsWell (begin_resource name kind hole leaf outer st)
resource_well (Some name) kind hole leaf outer st w =
    on_well (name_of name st) (λ iri. filled hole leaf.at (terms.Iri iri) outer st) (λ iri. filled_well hole leaf.at (terms.Iri iri) outer st w)
resource_well None kind hole leaf outer st w = node_well kind hole leaf outer st w

short_well : (shorthand : Option Shorthand) (kind : TokenKind) (hole : Hole) (leaf : Leaf) (outer : List Hole) (st : State) → IsWell (hole ∷ outer)
    → LeadsWell (begin_short shorthand kind hole leaf outer st)
short_well (Some shorthand) kind hole leaf outer st w = filled_well hole leaf.at (terms.Literal leaf.text (datatype_of shorthand) []) outer st w
short_well None kind hole leaf outer st w = resource_well (as_name kind leaf) kind hole leaf outer st w

begin_well : (quoting : Option Quoting) (kind : TokenKind) (hole : Hole) (leaf : Leaf) (outer : List Hole) (st : State) → IsInner hole → IsWell (hole ∷ outer)
    → LeadsWell (begin_by quoting kind hole leaf outer st)
begin_well (Some quoting) kind hole leaf outer st inner w = (inner, w)
begin_well None kind hole leaf outer st inner w = short_well (as_shorthand kind) kind hole leaf outer st w

item_well : (kind : TokenKind) (leaf : Leaf) (chain : Chain) (hole : Hole) (outer : List Hole) (st : State) → IsWell (hole ∷ outer)
    → LeadsWell (begin_item kind leaf chain (hole ∷ outer) st)
item_well kind leaf chain hole outer st w =
    on_well (started_by kind leaf (length (hole ∷ outer)) st)
    (λ here. on (linked (last_of chain) leaf.at here.blanks (numbered here)) (λ inside. begin_object kind (holes.Item (first_of chain here.blanks) here.blanks) leaf (hole ∷ outer) inside))
    (λ here. on_well (linked (last_of chain) leaf.at here.blanks (numbered here))
    (λ inside. begin_object kind (holes.Item (first_of chain here.blanks) here.blanks) leaf (hole ∷ outer) inside)
    (λ inside. begin_well (as_quoting kind) kind (holes.Item (first_of chain here.blanks) here.blanks) leaf (hole ∷ outer) inside tt (tt, w)))

collection_well : (kind : TokenKind) (leaf : Leaf) (chain : Chain) (outer : List Hole) (st : State) → IsInside outer → LeadsWell (in_collection kind leaf chain outer st)
collection_well kind leaf chain [] st i = absurd i
collection_well kinds.CloseRound leaf chain (hole ∷ outer) st i =
    on_well (ended (last_of chain) leaf.at st) (closed leaf.at (collection_of chain) (hole ∷ outer)) (λ after. closed_well leaf.at (collection_of chain) (hole ∷ outer) after i)
collection_well kind leaf chain (hole ∷ outer) st i =
    if_well (begins_object kind) (begin_item kind leaf chain (hole ∷ outer) st) stuck (item_well kind leaf chain hole outer st i) tt

begin_verb_well : (name : Option Name) (kind : TokenKind) (s : Term) (outer : List Hole) (st : State) → IsWell outer → LeadsWell (begin_verb name kind s outer st)
begin_verb_well (Some name) kind s outer st w = on_well (name_of name st) (λ iri. to (config (expect.Object s (terms.Iri iri)) outer) st) (λ iri. w)
begin_verb_well None kinds.A s outer st w = w
begin_verb_well None kind s outer st w = tt

verb_well : (kind : TokenKind) (leaf : Leaf) (s : Term) (outer : List Hole) (st : State) → IsWell outer → LeadsWell (at_verb kind leaf s outer st)
verb_well kind leaf s outer st w = begin_verb_well (as_name kind leaf) kind s outer st w

end_well : (kind : TokenKind) (leaf : Leaf) (s : Term) (outer : List Hole) (st : State) → IsWell outer → LeadsWell (at_end kind leaf s outer st)
end_well kinds.Dot leaf s [] st w = tt
end_well kinds.CloseSquare leaf s (hole ∷ outer) st w = filled_well hole leaf.at s outer st w
end_well kind leaf s outer st w = tt

object_end_well : (kind : TokenKind) (leaf : Leaf) (s p : Term) (outer : List Hole) (st : State) → IsWell outer → LeadsWell (after_object kind leaf s p outer st)
object_end_well kinds.Comma leaf s p outer st w = w
object_end_well kinds.Semicolon leaf s p outer st w = w
object_end_well kind leaf s p outer st w = end_well kind leaf s outer st w

semicolon_well : (kind : TokenKind) (leaf : Leaf) (s : Term) (outer : List Hole) (st : State) → IsWell outer → LeadsWell (after_semicolon kind leaf s outer st)
semicolon_well kinds.Semicolon leaf s outer st w = w
semicolon_well kinds.Dot leaf s outer st w = end_well kinds.Dot leaf s outer st w
semicolon_well kinds.CloseSquare leaf s outer st w = end_well kinds.CloseSquare leaf s outer st w
semicolon_well kind leaf s outer st w = verb_well kind leaf s outer st w

after_listed_well : (kind : TokenKind) (leaf : Leaf) (s : Term) (outer : List Hole) (st : State) → IsWell outer → LeadsWell (after_listed kind leaf s outer st)
after_listed_well kinds.Dot leaf s outer st w = end_well kinds.Dot leaf s outer st w
after_listed_well kinds.CloseSquare leaf s outer st w = end_well kinds.CloseSquare leaf s outer st w
after_listed_well kind leaf s outer st w = verb_well kind leaf s outer st w

listed_well : (outer : List Hole) → IsWell outer → IsWell (listed outer)
listed_well [] w = tt
listed_well (holes.Subject ∷ outer) w = (tt, w.1)
listed_well (holes.ListedSubject ∷ outer) w = w
listed_well (holes.Object s p ∷ outer) w = w
listed_well (holes.Item first node ∷ outer) w = w

brackets_well : (kind : TokenKind) (leaf : Leaf) (node : ℕ) (outer : List Hole) (st : State) → IsWell outer → LeadsWell (in_brackets kind leaf node outer st)
brackets_well kinds.CloseSquare leaf node outer st w = closed_well leaf.at (terms.Blank node) outer st w
brackets_well kind leaf node outer st w = verb_well kind leaf (terms.Blank node) (listed outer) st (listed_well outer w)

directive_well : (text : List ℕ) (outer : List Hole) (st : State) → IsOutside outer → LeadsWell (at_directive text outer st)
directive_well text outer st o =
    if_well (bytes_eq text (codes "@prefix")) (to (config (expect.Prefix true) outer) st) (if bytes_eq text (codes "@base") then to (config (expect.Base true) outer) st else stuck) o
    (if_well (bytes_eq text (codes "@base")) (to (config (expect.Base true) outer) st) stuck o tt)

outside_well : (outer : List Hole) → IsOutside outer → IsWell outer
outside_well [] o = tt
outside_well (hole ∷ outer) o = absurd o

statement_well : (kind : TokenKind) (leaf : Leaf) (outer : List Hole) (st : State) → IsOutside outer → LeadsWell (at_statement kind leaf outer st)
statement_well kinds.LanguageTag leaf outer st o = directive_well leaf.text outer st o
statement_well kinds.Prefix leaf outer st o = o
statement_well kinds.Base leaf outer st o = o
statement_well kind leaf outer st o = resource_well (as_name kind leaf) kind holes.Subject leaf outer st (tt, outside_well outer o)

prefix_well : (kind : TokenKind) (leaf : Leaf) (dot : Bool) (outer : List Hole) (st : State) → IsOutside outer → LeadsWell (at_prefix kind leaf dot outer st)
prefix_well kinds.Namespace leaf dot outer st o = o
prefix_well kind leaf dot outer st o = tt

after_iri_well : (dot : Bool) (outer : List Hole) → IsOutside outer → IsFormedBy (after_iri dot) outer
after_iri_well true outer o = o
after_iri_well false outer o = o

namespace_well : (kind : TokenKind) (leaf : Leaf) (dot : Bool) (prefix : List ℕ) (outer : List Hole) (st : State) → IsOutside outer → LeadsWell (at_namespace kind leaf dot prefix outer st)
namespace_well kinds.Iri leaf dot prefix outer st o =
    on_well (absolute st.base leaf) (λ value. to (config (after_iri dot) outer) (record st { prefixes = bound prefix value st.prefixes })) (λ value. after_iri_well dot outer o)
namespace_well kind leaf dot prefix outer st o = tt

base_well : (kind : TokenKind) (leaf : Leaf) (dot : Bool) (outer : List Hole) (st : State) → IsOutside outer → LeadsWell (at_base kind leaf dot outer st)
base_well kinds.Iri leaf dot outer st o =
    on_well (absolute st.base leaf) (λ value. to (config (after_iri dot) outer) (record st { base = value })) (λ value. after_iri_well dot outer o)
base_well kind leaf dot outer st o = tt

dot_well : (kind : TokenKind) (outer : List Hole) (st : State) → IsOutside outer → LeadsWell (at_dot kind outer st)
dot_well kinds.Dot outer st o = o
dot_well kind outer st o = tt

typed_well : (name : Option Name) (leaf : Leaf) (text : List ℕ) (hole : Hole) (outer : List Hole) (st : State) → IsWell (hole ∷ outer) → LeadsWell (typed_by name leaf text hole outer st)
typed_well (Some name) leaf text hole outer st w =
    on_well (name_of name st) (λ iri. filled hole leaf.at (terms.Literal text iri []) outer st) (λ iri. filled_well hole leaf.at (terms.Literal text iri []) outer st w)
typed_well None leaf text hole outer st w = tt

plain_well : (next : Expected) (outer : List Hole) (kind : TokenKind) (leaf : Leaf) (st : State) → IsFormedBy next outer → LeadsWell (plain_move next outer kind leaf st)
plain_well expect.Statement outer kind leaf st f = statement_well kind leaf outer st f
plain_well (expect.Prefix dot) outer kind leaf st f = prefix_well kind leaf dot outer st f
plain_well (expect.Namespace dot prefix) outer kind leaf st f = namespace_well kind leaf dot prefix outer st f
plain_well (expect.Base dot) outer kind leaf st f = base_well kind leaf dot outer st f
plain_well expect.DirectiveDot outer kind leaf st f = dot_well kind outer st f
plain_well (expect.Verb s) outer kind leaf st f = verb_well kind leaf s outer st f
plain_well (expect.AfterSemicolon s) outer kind leaf st f = semicolon_well kind leaf s outer st f
plain_well (expect.AfterObject s p) outer kind leaf st f = object_end_well kind leaf s p outer st f
plain_well (expect.AfterListed s) outer kind leaf st f = after_listed_well kind leaf s outer st f
plain_well (expect.Object s p) outer kind leaf st f = begin_well (as_quoting kind) kind (holes.Object s p) leaf outer st tt (tt, f)
plain_well (expect.Item chain) outer kind leaf st f = collection_well kind leaf chain outer st f
plain_well (expect.Property node) outer kind leaf st f = brackets_well kind leaf node outer st (inside_well outer f)
plain_well (expect.Datatype text hole) outer kind leaf st f = typed_well (as_name kind leaf) leaf text hole outer st f
plain_well (expect.Suffix text at hole) outer kind leaf st f = tt

onward_well : (m : Move) (kind : TokenKind) (leaf : Leaf) → LeadsWell m → LeadsWell (onward m kind leaf)
onward_well (to c st) kind leaf f = plain_well c.next c.outer kind leaf st f
onward_well stuck kind leaf f = tt
onward_well (fails fault) kind leaf f = tt

string_well : (kind : TokenKind) (leaf : Leaf) (text : List ℕ) (at : ℕ) (hole : Hole) (outer : List Hole) (st : State) → IsWell (hole ∷ outer)
    → LeadsWell (after_string kind leaf text at hole outer st)
string_well kinds.LanguageTag leaf text at hole outer st w = filled_well hole leaf.at (terms.Literal text rdf_lang_string (tag_of leaf.text)) outer st w
string_well kinds.DoubleCaret leaf text at hole outer st w = w
string_well kind leaf text at hole outer st w =
    if_well (follows hole outer kind) (onward (filled hole at (terms.Literal text xsd_string []) outer st) kind leaf) stuck
    (onward_well (filled hole at (terms.Literal text xsd_string []) outer st) kind leaf (filled_well hole at (terms.Literal text xsd_string []) outer st w)) tt

move_well : (next : Expected) (outer : List Hole) (kind : TokenKind) (leaf : Leaf) (st : State) → IsFormedBy next outer → LeadsWell (move_by next outer kind leaf st)
move_well (expect.Suffix text at hole) outer kind leaf st f = string_well kind leaf text at hole outer st f.1
move_well expect.Statement outer kind leaf st f = plain_well expect.Statement outer kind leaf st f
move_well next outer kind leaf st f = plain_well next outer kind leaf st f

-- a reader stays where it can stand
pub kept : (c : Config) (kind : TokenKind) (leaf : Leaf) (st : State) → IsFormed c → LeadsWell (move c kind leaf st)
kept c kind leaf st f = move_well c.next c.outer kind leaf st f

pub formed : (c : Config) (kind : TokenKind) (leaf : Leaf) (st : State) (d : Config) (after : State) → IsFormed c → move c kind leaf st ≡ to d after → IsFormed d
formed c kind leaf st d after f e = subst LeadsWell e (kept c kind leaf st f)

pub formed_first : IsFormed (config expect.Statement [])
formed_first = tt
