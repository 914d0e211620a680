use Rattle.std.proofs.Common.{sym, ◌∙◌}
use Rattle.turtle_read.specs.Faults.{leaf_of}
use Rattle.turtle_read.specs.Readers.{inside}
use Rattle.turtle_read.proofs.Moves as laws
use Rattle.turtle_read.proofs.Stops.{follows_as}
use Rattle.turtle_read.proofs.Bounds.{short_below}
use Rattle.turtle_read.proofs.reader.Reader.begin_short.Goals as goal

pub returns-in-Some-clause-moves : goal.returns-in-Some-clause-moves
returns-in-Some-clause-moves c =
    follows_as c.args.token.at c.fill.result _ _ _ _ (laws.short c.args.token.kind c.args.hole (leaf_of c.args.token) c.args.self.now.outer (inside c.args.self.now) c.in-Some.term (sym c.in-Some.is ∙ c.in_ok-term.ensures)) (c.fill.ensures.moves c.args.token.at)

pub returns-in-None-clause-moves : goal.returns-in-None-clause-moves
returns-in-None-clause-moves c =
    follows_as c.args.token.at c.begin_resource.result _ _ _ _ (laws.not_short c.args.token.kind c.args.hole (leaf_of c.args.token) c.args.self.now.outer (inside c.args.self.now) (sym c.in-None.is ∙ c.in_ok-term.ensures)) c.begin_resource.ensures.moves

pub fill-requires-clause-term : goal.fill-requires-clause-term
fill-requires-clause-term c = short_below _ _ _ c.in-Some.term (sym c.in-Some.is ∙ c.in_ok-term.ensures)
