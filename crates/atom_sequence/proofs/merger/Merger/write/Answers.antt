use Rattle.std.proofs.Common.{arith}
use Rattle.std.proofs.Math.Logic.{∥∥₁_map}
use Rattle.atom_sequence.proofs.Holding.{some_lists, each_falls, hold_at}
use Rattle.atom_sequence.proofs.merger.Merger.write.Goals as goal

pub merge-requires-clause-left : goal.merge-requires-clause-left
merge-requires-clause-left c =
    ∥∥₁_map (some_lists c.args.self.now c.requires.sequences) (λ x.
    (x.0, c.begin.ensures x.0 (hold_at c.self.inside.views c.self.inside.count _ c.args.self.now x.0 c.self.view_is (omega arith) x.1)))

pub returns-clause-events : goal.returns-clause-events
returns-clause-events c = λ lists hold.
    c.merge.ensures.events lists (c.begin.ensures lists (hold_at c.self.inside.views c.self.inside.count _ c.args.self.now lists c.self.view_is (omega arith) hold))
    (each_falls c.args.self.now lists hold c.requires.order)

pub returns-clause-count : goal.returns-clause-count
returns-clause-count c = λ lists hold.
    c.merge.ensures.count lists (c.begin.ensures lists (hold_at c.self.inside.views c.self.inside.count _ c.args.self.now lists c.self.view_is (omega arith) hold))
    (each_falls c.args.self.now lists hold c.requires.order)
