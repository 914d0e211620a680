use Rattle.std.proofs.Common.{refl, ap, ◌∙◌}
use Rattle.turtle_read.specs.Faults.{leaf_of}
use Rattle.turtle_read.specs.Moves as moves
use Rattle.turtle_read.specs.Readers.{inside}
use Rattle.turtle_read.proofs.Moves as laws
use Rattle.turtle_read.proofs.Stops.{follows_as}
use Rattle.turtle_read.proofs.reader.Reader.at_end.Goals as goal

pub returns-in-Dot-clause-moves : goal.returns-in-Dot-clause-moves
returns-in-Dot-clause-moves c =
    follows_as c.args.token.at c.end_statement.result _ _ _ _ (ap (λ k. moves.at_end k (leaf_of c.args.token) c.args.subject c.args.self.now.outer (inside c.args.self.now)) c.in-Dot.is ∙ laws.at_end_dot (leaf_of c.args.token) c.args.subject c.args.self.now.outer (inside c.args.self.now)) c.end_statement.ensures.moves

pub returns-in-CloseSquare-clause-moves : goal.returns-in-CloseSquare-clause-moves
returns-in-CloseSquare-clause-moves c =
    follows_as c.args.token.at c.close.result _ _ _ _ (ap (λ k. moves.at_end k (leaf_of c.args.token) c.args.subject c.args.self.now.outer (inside c.args.self.now)) c.in-CloseSquare.is ∙ laws.at_end_close (leaf_of c.args.token) c.args.subject c.args.self.now.outer (inside c.args.self.now)) c.close.ensures.moves

pub returns-in_default-clause-moves : goal.returns-in_default-clause-moves
returns-in_default-clause-moves c =
    (refl, laws.at_end_other c.args.token.kind (leaf_of c.args.token) c.args.subject c.args.self.now.outer (inside c.args.self.now) c.in_default.not-Dot c.in_default.not-CloseSquare)
