use Rattle.std.proofs.Common.{◌∙◌, ap, sym}
use Rattle.turtle_document.specs.Machine.Move.{to}
use Rattle.turtle_read.specs.Faults.{leaf_of}
use Rattle.turtle_read.specs.Moves as moves
use Rattle.turtle_read.specs.Readers.{config_of, inside}
use Rattle.turtle_read.proofs.Moves as laws
use Rattle.turtle_read.proofs.Stops.{follows_as}
use Rattle.turtle_read.proofs.reader.Reader.at_statement.Goals as goal

pub returns-in-LanguageTag-clause-moves : goal.returns-in-LanguageTag-clause-moves
returns-in-LanguageTag-clause-moves c =
    follows_as c.args.token.at c.at_directive.result _ _ _ _
    (ap (λ k. moves.at_statement k (leaf_of c.args.token) c.args.self.now.outer (inside c.args.self.now)) c.in-LanguageTag.is
    ∙ laws.statement_tag (leaf_of c.args.token) c.args.self.now.outer (inside c.args.self.now)) c.at_directive.ensures.moves

pub returns-in-Prefix-clause-moves : goal.returns-in-Prefix-clause-moves
returns-in-Prefix-clause-moves c =
    ap (λ k. moves.at_statement k (leaf_of c.args.token) c.args.self.now.outer (inside c.args.self.now)) c.in-Prefix.is
    ∙ laws.statement_prefix (leaf_of c.args.token) c.args.self.now.outer (inside c.args.self.now)
    ∙ ap (λ s. to (config_of s) (inside s)) (sym c.expect.ensures)

pub returns-in-Base-clause-moves : goal.returns-in-Base-clause-moves
returns-in-Base-clause-moves c =
    ap (λ k. moves.at_statement k (leaf_of c.args.token) c.args.self.now.outer (inside c.args.self.now)) c.in-Base.is
    ∙ laws.statement_base (leaf_of c.args.token) c.args.self.now.outer (inside c.args.self.now)
    ∙ ap (λ s. to (config_of s) (inside s)) (sym c.expect-in-Base.ensures)

pub returns-in_default-clause-moves : goal.returns-in_default-clause-moves
returns-in_default-clause-moves c =
    follows_as c.args.token.at c.begin_resource.result _ _ _ _
    (laws.statement_other c.args.token.kind (leaf_of c.args.token) c.args.self.now.outer (inside c.args.self.now) c.in_default.not-LanguageTag c.in_default.not-Prefix c.in_default.not-Base) c.begin_resource.ensures.moves
