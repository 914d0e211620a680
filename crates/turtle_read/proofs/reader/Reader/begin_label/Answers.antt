use Rattle.turtle_read.specs.Faults.{leaf_of}
use Rattle.turtle_read.specs.Readers.{inside}
use Rattle.turtle_read.proofs.Moves as laws
use Rattle.turtle_read.proofs.Stops.{follows_as}
use Rattle.turtle_read.proofs.reader.Reader.begin_label.Goals as goal

pub returns-clause-moves : goal.returns-clause-moves
returns-clause-moves c =
    follows_as c.args.token.at c.fill.result _ _ _ _ (laws.node_label c.args.hole (leaf_of c.args.token) c.args.self.now.outer (inside c.args.self.now) _ c.in_ok-term.term c.in_ok-term.ensures.value) (c.fill.ensures.moves c.args.token.at)

pub fill-requires-clause-term : goal.fill-requires-clause-term
fill-requires-clause-term c = c.in_ok-term.ensures.small
