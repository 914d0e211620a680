use Rattle.std.proofs.Common.{◌≡◌, pos, length, map, take, replicate, All}
use Rattle.sound_block.specs.Block.{sums_after, IsSum}
use Rattle.block_signals.specs.Mixing.{heard}
use Rattle.block_signals.proofs.mixing.sum_up.Given as goal

abbrev pub invariant-loop-source : goal.invariant-loop-source
invariant-loop-source l = record {
  sums : l.sums ≡ sums_after (replicate (length l.initial.sums) (pos 0)) (map (heard l.outlets) (take l.source-index l.sources));
  small : All (IsSum l.source-index) l.sums;
}
