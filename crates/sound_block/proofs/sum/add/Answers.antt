use Rattle.std.proofs.Common.{◌≢◌, ◌<◌, ◌+◌, pos, length, arith, get_or-set_other, get_or-set_same, below_more}
use Rattle.std.proofs.lemmas.Int.{ints, to_z-of_z}
use Rattle.std.proofs.lemmas.List.Elements.{All-from_get_or}
use Rattle.sound_block.specs.Block.{IsSum}
use Rattle.sound_block.proofs.Sums.{added-is, one-more}
use Rattle.sound_block.proofs.sum.add.Goals as goal

pub loop-frame-preserved : goal.loop-frame-preserved
loop-frame-preserved c =
    let i = c.loop-frame.frame in
    let lt : i < length c.loop-frame.acc = omega arith in
    let same = c.loop-frame.invariant.others i (omega arith) in
    let few = c.requires.few i (pos 0) (omega arith) in
    record {
      sums = below_more _ _ (λ k h. let ne : k ≢ i = omega arith in rw get_or-set_other (c.loop-frame.invariant.sums k h)) (rw get_or-set_same (grind (arith, ints, to_z-of_z, same, few)));
      others = λ k h. let ne : k ≢ i = omega arith in rw get_or-set_other (c.loop-frame.invariant.others k (omega arith));
      samples = below_more _ _ c.loop-frame.invariant.samples (rw (← c.widened.ensures.value) c.widened.ensures.one);
    }

pub returns-clause-sums : goal.returns-clause-sums
returns-clause-sums c = added-is c.args.acc.now c.loop-frame.acc c.args.x.now (omega arith) (omega arith) (λ k h. c.loop-frame.invariant.sums k (omega arith))

pub returns-clause-count : goal.returns-clause-count
returns-clause-count c = λ n sums. All-from_get_or (IsSum (n + 1)) c.loop-frame.acc (pos 0) (λ k h. let lt : k < c.loop-frame.frame = omega arith in rw c.loop-frame.invariant.sums (one-more n _ _ (sums k (pos 0) (omega arith)) (c.loop-frame.invariant.samples k (omega arith))))
