-- Each move of a reader is right.
use Rattle.std.proofs.Common.{List, [], ◌∷◌}
use Rattle.turtle_grammar.specs.declared.token.TokenKind.{TokenKind}
use Rattle.turtle_grammar.specs.Tree.{Leaf, lexeme}
use Rattle.turtle_document.specs.Meaning.{State}
use Rattle.turtle_document.specs.Machine.{config, Config, at_verb, after_object, after_semicolon, after_listed, begin_object, in_collection, in_brackets, typed_by, as_name, after_string, move_by, move}
use Rattle.turtle_document.specs.declared.expected.Hole.{Hole}
use Rattle.turtle_document.specs.declared.expected.Hole.TheVariants as holes
use Rattle.turtle_document.specs.declared.expected.Expected.{Expected}
use Rattle.turtle_document.specs.declared.expected.Expected.TheVariants as expect
use Rattle.turtle_document.proofs.Completion.{IsRight}
use Rattle.turtle_document.proofs.Tools.{right_for}
use Rattle.turtle_document.proofs.Objects.{IsInner, object_right}
use Rattle.turtle_document.proofs.Lists.{verb_right, after_object_right, after_semicolon_right, after_listed_right}
use Rattle.turtle_document.proofs.Properties.{property_right}
use Rattle.turtle_document.proofs.Collections.{collection_right}
use Rattle.turtle_document.proofs.Strings.{MayWait, string_right, datatype_right}
use Rattle.turtle_document.proofs.Directives.{prefix_right, namespace_right, base_right, dot_right}
use Rattle.turtle_document.proofs.Statements.{statement_right}
use Rattle.turtle_document.proofs.Formed.{Fits, IsFormedBy, IsFormed}

may_wait : (hole : Hole) (outer : List Hole) → IsInner hole → Fits hole outer → MayWait hole outer
may_wait holes.Subject outer inner fits = inner
may_wait holes.ListedSubject outer inner fits = inner
may_wait (holes.Object s p) outer inner fits = tt
may_wait (holes.Item first node) [] inner fits = fits
may_wait (holes.Item first node) (hole ∷ outer) inner fits = tt

right_by : (next : Expected) (outer : List Hole) (kind : TokenKind) (leaf : Leaf) (st : State) → IsFormedBy next outer
    → IsRight (config next outer) (lexeme kind leaf) st (move_by next outer kind leaf st)
right_by (expect.Suffix text at hole) outer kind leaf st f =
    right_for (config (expect.Suffix text at hole) outer) (lexeme kind leaf) st (after_string kind leaf text at hole outer st)
    (string_right kind leaf text at hole outer st (may_wait hole outer f.0 f.1.0))
right_by expect.Statement [] kind leaf st f = statement_right kind leaf st
right_by expect.Statement (hole ∷ outer) kind leaf st f = absurd f
right_by (expect.Prefix dot) outer kind leaf st f = prefix_right dot outer kind leaf st
right_by (expect.Namespace dot prefix) outer kind leaf st f = namespace_right dot prefix outer kind leaf st
right_by (expect.Base dot) outer kind leaf st f = base_right dot outer kind leaf st
right_by expect.DirectiveDot outer kind leaf st f = dot_right outer kind leaf st
right_by (expect.Verb s) outer kind leaf st f =
    right_for (config (expect.Verb s) outer) (lexeme kind leaf) st (at_verb kind leaf s outer st) (verb_right kind leaf s outer st)
right_by (expect.AfterSemicolon s) outer kind leaf st f =
    right_for (config (expect.AfterSemicolon s) outer) (lexeme kind leaf) st (after_semicolon kind leaf s outer st) (after_semicolon_right kind leaf s outer st)
right_by (expect.AfterObject s p) outer kind leaf st f =
    right_for (config (expect.AfterObject s p) outer) (lexeme kind leaf) st (after_object kind leaf s p outer st) (after_object_right kind leaf s p outer st)
right_by (expect.AfterListed s) outer kind leaf st f =
    right_for (config (expect.AfterListed s) outer) (lexeme kind leaf) st (after_listed kind leaf s outer st) (after_listed_right kind leaf s outer st)
right_by (expect.Object s p) outer kind leaf st f =
    right_for (config (expect.Object s p) outer) (lexeme kind leaf) st (begin_object kind (holes.Object s p) leaf outer st) (object_right kind leaf (holes.Object s p) outer st tt)
right_by (expect.Item chain) [] kind leaf st f = absurd f
right_by (expect.Item chain) (hole ∷ outer) kind leaf st f =
    right_for (config (expect.Item chain) (hole ∷ outer)) (lexeme kind leaf) st (in_collection kind leaf chain (hole ∷ outer) st) (collection_right kind leaf chain hole outer st)
right_by (expect.Property node) [] kind leaf st f = absurd f
right_by (expect.Property node) (hole ∷ outer) kind leaf st f =
    right_for (config (expect.Property node) (hole ∷ outer)) (lexeme kind leaf) st (in_brackets kind leaf node (hole ∷ outer) st) (property_right kind leaf node hole outer st)
right_by (expect.Datatype text hole) outer kind leaf st f =
    right_for (config (expect.Datatype text hole) outer) (lexeme kind leaf) st (typed_by (as_name kind leaf) leaf text hole outer st) (datatype_right kind leaf text hole outer st)

-- wherever a reader can stand, its move at a token is that of the grammar and of the meaning
pub right : (c : Config) (kind : TokenKind) (leaf : Leaf) (st : State) → IsFormed c → IsRight c (lexeme kind leaf) st (move c kind leaf st)
right c kind leaf st f = right_by c.next c.outer kind leaf st f
