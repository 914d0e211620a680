use Rattle.std.proofs.Common.{arith, eq-eqb}
use Rattle.std.proofs.lemmas.Bool.{ne_eqb}
use Rattle.std.proofs.lemmas.Int.{ints}
use Rattle.replay_core.proofs.Mixing.{sum-taken, sum-skipped}
use Rattle.replay_core.proofs.mixer.sum_up.Goals as goal
use Rattle.replay_core.proofs.mixer.sum_up.Goals.{then-cable-inst, else-cable-inst}

pub loop-cable-preserved : goal.loop-cable-preserved
loop-cable-preserved c =
    elim c.if-cable-inst.branch [
      | then-cable-inst w ↦ record {
        sums = λ k h. sum-taken c.args.outs.now.blocks c.as_slice-cable-items.result.now c.args.inst c.loop-cable.cable-index k c.cable-item.result _ _ c.loop-cable-test.true c.cable-item.is (eq-eqb _ _ w.if-cable-inst.true) (c.loop-cable.invariant.sums k (omega arith)) (rw (w.sums-is, ← w.block.ensures) (w.add.ensures.sums k (omega arith)));
        near = λ k h. let n = c.loop-cable.invariant.near k (omega arith) in let f = w.add.ensures.sums k (omega arith) in let s = w.add.ensures.samples k (omega arith) in rw w.sums-is (omega (arith, ints), omega (arith, ints));
      }
      | else-cable-inst w ↦ record {
        sums = λ k h. rw w.sums-is (sum-skipped c.args.outs.now.blocks c.as_slice-cable-items.result.now c.args.inst c.loop-cable.cable-index k c.cable-item.result _ c.loop-cable-test.true c.cable-item.is (ne_eqb _ _ w.if-cable-inst.false) (c.loop-cable.invariant.sums k (omega arith)));
        near = λ k h. let n = c.loop-cable.invariant.near k (omega arith) in rw w.sums-is (omega (arith, ints), omega (arith, ints));
      }
    ]
