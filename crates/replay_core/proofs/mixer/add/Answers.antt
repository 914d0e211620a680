use Rattle.std.proofs.Common.{◌≢◌, ◌<◌, length, arith, get_or-set_other, get_or-set_same, below_more}
use Rattle.std.proofs.lemmas.Int.{ints, to_z-of_z}
use Rattle.replay_core.proofs.mixer.add.Goals as goal

pub loop-frame-preserved : goal.loop-frame-preserved
loop-frame-preserved c =
    let i = c.loop-frame.frame in
    let lt : i < length c.loop-frame.sums = omega arith in
    let same = c.loop-frame.invariant.others i (omega arith) in
    let small = c.requires.small i (omega arith) in
    record {
      sums = below_more _ _ (λ k h. let ne : k ≢ i = omega arith in rw get_or-set_other (c.loop-frame.invariant.sums k h)) (rw get_or-set_same (grind (arith, ints, to_z-of_z, same, small)));
      others = λ k h. let ne : k ≢ i = omega arith in rw get_or-set_other (c.loop-frame.invariant.others k (omega arith));
      samples = below_more _ _ c.loop-frame.invariant.samples (rw (← c.widened.ensures.value) c.widened.ensures.near);
    }
