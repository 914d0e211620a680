use Rattle.std.proofs.Common.{refl, ap}
use Rattle.turtle_read.specs.Faults.{leaf_of}
use Rattle.turtle_read.specs.Moves as moves
use Rattle.turtle_read.specs.Readers.{inside}
use Rattle.turtle_read.proofs.Moves as laws
use Rattle.turtle_read.proofs.Stops.{follows_as}
use Rattle.turtle_read.proofs.reader.Reader.begin_node.Goals as goal

pub returns-in-BlankLabel-clause-moves : goal.returns-in-BlankLabel-clause-moves
returns-in-BlankLabel-clause-moves c =
    follows_as c.args.token.at c.begin_label.result _ _ _ _ (ap (λ k. moves.begin_node k c.args.hole (leaf_of c.args.token) c.args.self.now.outer (inside c.args.self.now)) c.in-BlankLabel.is) c.begin_label.ensures.moves

pub returns-in-OpenSquare-clause-moves : goal.returns-in-OpenSquare-clause-moves
returns-in-OpenSquare-clause-moves c =
    follows_as c.args.token.at c.open_square.result _ _ _ _ (ap (λ k. moves.begin_node k c.args.hole (leaf_of c.args.token) c.args.self.now.outer (inside c.args.self.now)) c.in-OpenSquare.is) c.open_square.ensures.moves

pub returns-in-OpenRound-clause-moves : goal.returns-in-OpenRound-clause-moves
returns-in-OpenRound-clause-moves c =
    follows_as c.args.token.at c.open_round.result _ _ _ _ (ap (λ k. moves.begin_node k c.args.hole (leaf_of c.args.token) c.args.self.now.outer (inside c.args.self.now)) c.in-OpenRound.is) c.open_round.ensures.moves

pub returns-in_default-clause-moves : goal.returns-in_default-clause-moves
returns-in_default-clause-moves c =
    (refl, laws.node_other c.args.token.kind c.args.hole (leaf_of c.args.token) c.args.self.now.outer (inside c.args.self.now) c.in_default.not-BlankLabel c.in_default.not-OpenSquare c.in_default.not-OpenRound)
