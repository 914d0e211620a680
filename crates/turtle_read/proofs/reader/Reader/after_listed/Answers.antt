use Rattle.std.proofs.Common.{ap, sym, ◌∙◌}
use Rattle.turtle_read.specs.Faults.{leaf_of}
use Rattle.turtle_read.specs.Moves as moves
use Rattle.turtle_read.specs.Readers.{inside}
use Rattle.turtle_read.proofs.Moves as laws
use Rattle.turtle_read.proofs.Stops.{follows_as}
use Rattle.turtle_read.proofs.reader.Reader.after_listed.Goals as goal

pub returns-in-Dot-clause-moves : goal.returns-in-Dot-clause-moves
returns-in-Dot-clause-moves c =
    follows_as c.args.token.at c.at_end.result _ _ _ _ (ap (λ k. moves.after_listed k (leaf_of c.args.token) c.args.subject c.args.self.now.outer (inside c.args.self.now)) c.in-Dot.is ∙ laws.listed_dot (leaf_of c.args.token) c.args.subject c.args.self.now.outer (inside c.args.self.now) ∙ sym (ap (λ k. moves.at_end k (leaf_of c.args.token) c.args.subject c.args.self.now.outer (inside c.args.self.now)) c.in-Dot.is)) c.at_end.ensures.moves

pub returns-in-CloseSquare-clause-moves : goal.returns-in-CloseSquare-clause-moves
returns-in-CloseSquare-clause-moves c =
    follows_as c.args.token.at c.at_end-in-CloseSquare.result _ _ _ _ (ap (λ k. moves.after_listed k (leaf_of c.args.token) c.args.subject c.args.self.now.outer (inside c.args.self.now)) c.in-CloseSquare.is ∙ laws.listed_close (leaf_of c.args.token) c.args.subject c.args.self.now.outer (inside c.args.self.now) ∙ sym (ap (λ k. moves.at_end k (leaf_of c.args.token) c.args.subject c.args.self.now.outer (inside c.args.self.now)) c.in-CloseSquare.is)) c.at_end-in-CloseSquare.ensures.moves

pub returns-in_default-clause-moves : goal.returns-in_default-clause-moves
returns-in_default-clause-moves c =
    follows_as c.args.token.at c.at_verb.result _ _ _ _ (laws.listed_other c.args.token.kind (leaf_of c.args.token) c.args.subject c.args.self.now.outer (inside c.args.self.now) c.in_default.not-Dot c.in_default.not-CloseSquare) c.at_verb.ensures.moves
