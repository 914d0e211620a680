use Rattle.std.proofs.Common.{ap, sym, ◌∙◌}
use Rattle.triple_store.specs.declared.term.Term.TheVariants as terms
use Rattle.turtle_read.specs.Faults.{leaf_of}
use Rattle.turtle_read.specs.Moves as moves
use Rattle.turtle_read.specs.Readers.{inside}
use Rattle.turtle_read.proofs.Moves as laws
use Rattle.turtle_read.proofs.Stops.{follows_as}
use Rattle.turtle_read.proofs.reader.Reader.in_brackets.Goals as goal

pub returns-in-CloseSquare-clause-moves : goal.returns-in-CloseSquare-clause-moves
returns-in-CloseSquare-clause-moves c =
    follows_as c.args.token.at c.close.result _ _ _ _ (ap (λ k. moves.in_brackets k (leaf_of c.args.token) c.args.node c.args.self.now.outer (inside c.args.self.now)) c.in-CloseSquare.is ∙ laws.brackets_close (leaf_of c.args.token) c.args.node c.args.self.now.outer (inside c.args.self.now)) c.close.ensures.moves

pub returns-in_ok-list_subject-in_default-clause-moves : goal.returns-in_ok-list_subject-in_default-clause-moves
returns-in_ok-list_subject-in_default-clause-moves c =
    follows_as c.args.token.at c.at_verb.result _ _ _ _ (laws.brackets_other c.args.token.kind (leaf_of c.args.token) c.args.node c.args.self.now.outer (inside c.args.self.now) c.in_default.not-CloseSquare ∙ ap (λ o. moves.at_verb c.args.token.kind (leaf_of c.args.token) (terms.Blank c.args.node) o (inside c.args.self.now)) (sym c.in_ok-list_subject-in_default.ensures)) c.at_verb.ensures.moves
