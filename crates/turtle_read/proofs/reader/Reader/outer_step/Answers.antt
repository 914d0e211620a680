use Rattle.std.proofs.Common.{refl, ap, ◌∙◌}
use Rattle.turtle_read.specs.Faults.{leaf_of}
use Rattle.turtle_read.specs.Moves as moves
use Rattle.turtle_read.specs.Readers.{inside}
use Rattle.turtle_read.proofs.Moves as laws
use Rattle.turtle_read.proofs.Stops.{follows_as}
use Rattle.turtle_read.proofs.reader.Reader.outer_step.Goals as goal

pub returns-in-Statement-clause-moves : goal.returns-in-Statement-clause-moves
returns-in-Statement-clause-moves c =
    follows_as c.args.token.at c.at_statement.result _ _ _ _
    (ap (λ e. moves.plain_move e c.args.self.now.outer c.args.token.kind (leaf_of c.args.token) (inside c.args.self.now)) c.in-Statement.is ∙ laws.plain_statement c.args.self.now.outer c.args.token.kind (leaf_of c.args.token) (inside c.args.self.now))
    c.at_statement.ensures.moves

pub returns-in-Prefix-clause-moves : goal.returns-in-Prefix-clause-moves
returns-in-Prefix-clause-moves c =
    follows_as c.args.token.at c.at_prefix.result _ _ _ _
    (ap (λ e. moves.plain_move e c.args.self.now.outer c.args.token.kind (leaf_of c.args.token) (inside c.args.self.now)) c.in-Prefix.is ∙ laws.plain_prefix c.in-Prefix.dot c.args.self.now.outer c.args.token.kind (leaf_of c.args.token) (inside c.args.self.now))
    c.at_prefix.ensures.moves

pub returns-in-Namespace-clause-moves : goal.returns-in-Namespace-clause-moves
returns-in-Namespace-clause-moves c =
    follows_as c.args.token.at c.at_namespace.result _ _ _ _
    (ap (λ e. moves.plain_move e c.args.self.now.outer c.args.token.kind (leaf_of c.args.token) (inside c.args.self.now)) c.in-Namespace.is ∙ laws.plain_namespace c.in-Namespace.dot c.in-Namespace.prefix c.args.self.now.outer c.args.token.kind (leaf_of c.args.token) (inside c.args.self.now))
    c.at_namespace.ensures.moves

pub returns-in-Base-clause-moves : goal.returns-in-Base-clause-moves
returns-in-Base-clause-moves c =
    follows_as c.args.token.at c.at_base.result _ _ _ _
    (ap (λ e. moves.plain_move e c.args.self.now.outer c.args.token.kind (leaf_of c.args.token) (inside c.args.self.now)) c.in-Base.is ∙ laws.plain_base c.in-Base.dot c.args.self.now.outer c.args.token.kind (leaf_of c.args.token) (inside c.args.self.now))
    c.at_base.ensures.moves

pub returns-in-DirectiveDot-clause-moves : goal.returns-in-DirectiveDot-clause-moves
returns-in-DirectiveDot-clause-moves c =
    follows_as c.args.token.at c.at_dot.result _ _ _ _
    (ap (λ e. moves.plain_move e c.args.self.now.outer c.args.token.kind (leaf_of c.args.token) (inside c.args.self.now)) c.in-DirectiveDot.is ∙ laws.plain_dot c.args.self.now.outer c.args.token.kind (leaf_of c.args.token) (inside c.args.self.now))
    c.at_dot.ensures.moves

pub returns-in_default-clause-moves : goal.returns-in_default-clause-moves
returns-in_default-clause-moves c =
    (refl, laws.outer_waits c.args.next c.args.self.now.outer c.args.token.kind (leaf_of c.args.token) (inside c.args.self.now) c.requires.outer c.in_default.not-Statement c.in_default.not-Prefix c.in_default.not-Namespace c.in_default.not-Base c.in_default.not-DirectiveDot)
