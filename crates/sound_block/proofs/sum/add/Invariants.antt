use Rattle.std.proofs.Common.{◌≡◌, ◌+ℤ◌, ◌<◌, ◌≤◌, ℕ}
use Rattle.sound_block.specs.Block.{sample_at, IsSum}
use Rattle.sound_block.proofs.Sums.{number_at}
use Rattle.sound_block.proofs.sum.add.Given as goal

-- the signal has been added up to this frame, and its samples there fit their type
abbrev pub invariant-loop-frame : goal.invariant-loop-frame
invariant-loop-frame l = record {
  sums : (k : ℕ) → k < l.frame → number_at l.acc k ≡ number_at l.fn.acc k +ℤ (sample_at l.x k).0;
  others : (k : ℕ) → l.frame ≤ k → number_at l.acc k ≡ number_at l.fn.acc k;
  samples : (k : ℕ) → k < l.frame → IsSum 1 (sample_at l.x k).0;
}
