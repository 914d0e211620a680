use Rattle.std.proofs.Common.{◌≡◌, ◌+ℤ◌, ◌<◌, ◌≤◌, ℕ}
use Rattle.replay_core.specs.Signals.{sample_at}
use Rattle.replay_core.specs.Mixer.{number_at, IsNear}
use Rattle.replay_core.proofs.mixer.add.Given as goal

-- the signal has been added up to this frame
abbrev pub invariant-loop-frame : goal.invariant-loop-frame
invariant-loop-frame l = record {
  sums : (k : ℕ) → k < l.frame → number_at l.sums k ≡ number_at l.fn.sums k +ℤ (sample_at l.signal k).0;
  others : (k : ℕ) → l.frame ≤ k → number_at l.sums k ≡ number_at l.fn.sums k;
  samples : (k : ℕ) → k < l.frame → IsNear 2147483648 (sample_at l.signal k).0;
}
