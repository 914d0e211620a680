use Rattle.std.proofs.Common.{arith}
use Rattle.std.proofs.lemmas.Int.{ints}
use Rattle.kernel_count.proofs.add_often.Goals as goal

pub add-requires-clause-few : goal.add-requires-clause-few
add-requires-clause-few c = λ k d h. let sum = c.loop-time.invariant k d h in (omega (arith, ints), omega (arith, ints))
