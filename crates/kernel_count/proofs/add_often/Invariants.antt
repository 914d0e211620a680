use Rattle.std.proofs.Common.{All}
use Rattle.sound_block.specs.Block.{IsSum}
use Rattle.kernel_count.proofs.add_often.Given as goal

-- so many signals have been added
abbrev pub invariant-loop-time : goal.invariant-loop-time
invariant-loop-time l = All (IsSum l._time) l.sums
