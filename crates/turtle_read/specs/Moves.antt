-- The functions of a reader's moves, each shut, so that a proof opens those that it is about.
use Rattle.std.specs.Prelude.{ℕ, Bool, List, [], ◌∷◌, Option, None, Result}
use Rattle.triple_store.specs.declared.term.Term.{Term}
use Rattle.turtle_grammar.specs.Tree.{Leaf}
use Rattle.turtle_grammar.specs.Value.{prefix_of}
use Rattle.turtle_grammar.specs.declared.token.TokenKind.{TokenKind}
use Rattle.turtle_document.specs.Machine as machine
use Rattle.turtle_document.specs.Machine.{Config, Move, config, as_name, as_shorthand, as_quoting}
use Rattle.turtle_document.specs.Machine.Move.{to, stuck}
use Rattle.turtle_document.specs.declared.expected.Expected.TheVariants as expect
use Rattle.turtle_document.specs.Meaning as meaning
use Rattle.turtle_document.specs.Meaning.{Fault, State}
use Rattle.turtle_document.specs.declared.expected.Chain.{Chain}
use Rattle.turtle_document.specs.declared.expected.Expected.{Expected}
use Rattle.turtle_document.specs.declared.expected.Hole.{Hole}
use Rattle.turtle_read.specs.Names as names

unfoldable pub absolute : List ℕ → Leaf → Result (List ℕ) Fault
absolute base leaf = meaning.absolute base leaf

unfoldable pub based_on : Leaf → State → Result State Fault
based_on leaf st = meaning.based_on leaf st

unfoldable pub expanded : Leaf → State → Result (List ℕ) Fault
expanded leaf st = meaning.expanded (st.prefixes (prefix_of leaf.text)) leaf

unfoldable pub add : ℕ → Term → Term → Term → State → Result State Fault
add at s p o st = meaning.add at s p o st

-- the IRI that a token names, if it is a name
unfoldable pub named : TokenKind → Leaf → State → Result (Option (List ℕ)) Fault
named kind leaf st = names.iri_of (as_name kind leaf) st

unfoldable pub filled : Hole → ℕ → Term → List Hole → State → Move
filled hole at term outer st = machine.filled hole at term outer st

unfoldable pub closed : ℕ → Term → List Hole → State → Move
closed at term outer st = machine.closed at term outer st

unfoldable pub begin_node : TokenKind → Hole → Leaf → List Hole → State → Move
begin_node kind hole leaf outer st = machine.begin_node kind hole leaf outer st

unfoldable pub begin_resource : TokenKind → Hole → Leaf → List Hole → State → Move
begin_resource kind hole leaf outer st = machine.begin_resource (as_name kind leaf) kind hole leaf outer st

unfoldable pub begin_short : TokenKind → Hole → Leaf → List Hole → State → Move
begin_short kind hole leaf outer st = machine.begin_short (as_shorthand kind) kind hole leaf outer st

unfoldable pub begin_object : TokenKind → Hole → Leaf → List Hole → State → Move
begin_object kind hole leaf outer st = machine.begin_object kind hole leaf outer st

unfoldable pub started_by : TokenKind → Leaf → ℕ → State → Result State Fault
started_by kind leaf n st = machine.started_by kind leaf n st

unfoldable pub linked : Chain → ℕ → ℕ → State → Result State Fault
linked chain at node st = meaning.linked (machine.last_of chain) at node st

unfoldable pub ended : Chain → ℕ → State → Result State Fault
ended chain at st = meaning.ended (machine.last_of chain) at st

unfoldable pub begin_item : TokenKind → Leaf → Chain → List Hole → State → Move
begin_item kind leaf chain outer st = machine.begin_item kind leaf chain outer st

unfoldable pub in_collection : TokenKind → Leaf → Chain → List Hole → State → Move
in_collection kind leaf chain outer st = machine.in_collection kind leaf chain outer st

-- a verb that is no name
unfoldable pub at_a : TokenKind → Term → List Hole → State → Move
at_a kind s outer st = machine.begin_verb None kind s outer st

unfoldable pub at_verb : TokenKind → Leaf → Term → List Hole → State → Move
at_verb kind leaf s outer st = machine.at_verb kind leaf s outer st

-- a statement's dot
abbrev pub end_statement : List Hole → State → Move
end_statement [] st = to (config expect.Statement []) st
end_statement (hole ∷ outer) st = stuck

unfoldable pub at_end : TokenKind → Leaf → Term → List Hole → State → Move
at_end kind leaf s outer st = machine.at_end kind leaf s outer st

unfoldable pub after_object : TokenKind → Leaf → Term → Term → List Hole → State → Move
after_object kind leaf s p outer st = machine.after_object kind leaf s p outer st

unfoldable pub after_semicolon : TokenKind → Leaf → Term → List Hole → State → Move
after_semicolon kind leaf s outer st = machine.after_semicolon kind leaf s outer st

unfoldable pub after_listed : TokenKind → Leaf → Term → List Hole → State → Move
after_listed kind leaf s outer st = machine.after_listed kind leaf s outer st

unfoldable pub in_brackets : TokenKind → Leaf → ℕ → List Hole → State → Move
in_brackets kind leaf node outer st = machine.in_brackets kind leaf node outer st

unfoldable pub at_directive : List ℕ → List Hole → State → Move
at_directive text outer st = machine.at_directive text outer st

unfoldable pub at_statement : TokenKind → Leaf → List Hole → State → Move
at_statement kind leaf outer st = machine.at_statement kind leaf outer st

unfoldable pub at_prefix : TokenKind → Leaf → Bool → List Hole → State → Move
at_prefix kind leaf dot outer st = machine.at_prefix kind leaf dot outer st

unfoldable pub at_namespace : TokenKind → Leaf → Bool → List ℕ → List Hole → State → Move
at_namespace kind leaf dot prefix outer st = machine.at_namespace kind leaf dot prefix outer st

unfoldable pub at_base : TokenKind → Leaf → Bool → List Hole → State → Move
at_base kind leaf dot outer st = machine.at_base kind leaf dot outer st

unfoldable pub at_dot : TokenKind → List Hole → State → Move
at_dot kind outer st = machine.at_dot kind outer st

unfoldable pub typed_by : TokenKind → Leaf → List ℕ → Hole → List Hole → State → Move
typed_by kind leaf text hole outer st = machine.typed_by (as_name kind leaf) leaf text hole outer st

unfoldable pub plain_move : Expected → List Hole → TokenKind → Leaf → State → Move
plain_move next outer kind leaf st = machine.plain_move next outer kind leaf st

unfoldable pub follows : Hole → List Hole → TokenKind → Bool
follows hole outer kind = machine.follows hole outer kind

unfoldable pub after_string : TokenKind → Leaf → List ℕ → ℕ → Hole → List Hole → State → Move
after_string kind leaf text at hole outer st = machine.after_string kind leaf text at hole outer st

unfoldable pub move : Config → TokenKind → Leaf → State → Move
move c kind leaf st = machine.move c kind leaf st

-- what comes next where no triples are open, or a string that waits
abbrev pub IsOuter : Expected → Type 0
IsOuter expect.Statement = Unit {0}
IsOuter (expect.Prefix dot) = Unit {0}
IsOuter (expect.Namespace dot prefix) = Unit {0}
IsOuter (expect.Base dot) = Unit {0}
IsOuter expect.DirectiveDot = Unit {0}
IsOuter (expect.Suffix text at hole) = Unit {0}
IsOuter _ = ⊥
