use Rattle.std.proofs.Common.{arith}
use Rattle.atom_sequence.proofs.Holding.{begin_left, begin_more}
use Rattle.atom_sequence.proofs.merger.begin.Goals as goal

pub loop-place-preserved : goal.loop-place-preserved
loop-place-preserved c =
    begin_more c.args.views.now c.loop-place.cursors c.loop-place.place c.index-views-place.result c.of.result c.index-views-place.is
    (omega arith) (omega arith) c.loop-place.invariant c.of.ensures

pub returns : goal.returns
returns c =
    begin_left c.args.views.now c.loop-place.cursors (omega arith) (λ k lt. c.loop-place.invariant k (omega (arith, lt)))
