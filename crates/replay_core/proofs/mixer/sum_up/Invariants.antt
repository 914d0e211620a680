use Rattle.std.proofs.Common.{◌≡◌, ◌*◌, ◌<◌, ℕ, length, map, take}
use Rattle.replay_core.specs.Signals.{signal_at, sources_of}
use Rattle.replay_core.specs.Mixer.{number_at, sum_at, IsNear}
use Rattle.replay_core.proofs.mixer.sum_up.Given as goal

-- the sums over the cables so far, each of at most 2^31 a cable
abbrev pub invariant-loop-cable : goal.invariant-loop-cable
invariant-loop-cable l = record {
  sums : (k : ℕ) → k < length l.sums → number_at l.sums k ≡ sum_at (map (signal_at l.outs.blocks) (sources_of (record l.session { cables = take l.cable-index l.cable-items }) l.inst)) k;
  near : (k : ℕ) → k < length l.sums → IsNear (2147483648 * l.cable-index) (number_at l.sums k);
}
