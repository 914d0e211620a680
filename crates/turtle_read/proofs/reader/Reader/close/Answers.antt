use Rattle.std.proofs.Common.{refl, ap, ◌∙◌}
use Rattle.turtle_read.specs.Moves.{closed}
use Rattle.turtle_read.specs.Readers.{inside}
use Rattle.turtle_read.proofs.Moves.{closed_none, closed_some}
use Rattle.turtle_read.proofs.Stops.{follows_as}
use Rattle.turtle_read.proofs.reader.Reader.close.Goals as goal

pub returns-in-None-clause-moves : goal.returns-in-None-clause-moves
returns-in-None-clause-moves c = (refl, ap (λ o. closed c.args.at c.args.term o (inside c.args.self.now)) c.in-None.ensures.pops.0 ∙ closed_none c.args.at c.args.term (inside c.args.self.now))

pub returns-in-Some-clause-moves : goal.returns-in-Some-clause-moves
returns-in-Some-clause-moves c =
    follows_as c.args.at c.fill.result _ _ _ _ (ap (λ o. closed c.args.at c.args.term o (inside c.args.self.now)) c.in-Some.ensures.pops ∙ closed_some c.args.at c.args.term _ _ (inside c.args.self.now)) (c.fill.ensures.moves c.args.at)

pub fill-requires-clause-hole : goal.fill-requires-clause-hole
fill-requires-clause-hole c = c.in-Some.ensures.small
