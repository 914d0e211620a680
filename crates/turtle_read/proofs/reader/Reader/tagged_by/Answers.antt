use Rattle.std.proofs.Common.{ap, sym}
use Rattle.turtle_read.specs.Moves.{filled}
use Rattle.turtle_read.specs.Readers.{inside}
use Rattle.turtle_read.proofs.Stops.{follows_as}
use Rattle.turtle_read.proofs.Bounds.{literal_below}
use Rattle.turtle_read.proofs.reader.Reader.tagged_by.Goals as goal

pub returns-clause-moves : goal.returns-clause-moves
returns-clause-moves c = λ at.
    follows_as at c.fill.result _ _ _ _ (ap (λ x. filled c.args.hole c.args.token.at x c.args.self.now.outer (inside c.args.self.now)) (sym c.in_ok-term.ensures)) (c.fill.ensures.moves at)

pub fill-requires-clause-term : goal.fill-requires-clause-term
fill-requires-clause-term c = literal_below _ _ _ _ _ c.in_ok-term.ensures
