use Rattle.std.proofs.Common.{◌≡◌, ◌<◌, ℕ, length, slice_index_or}
use Rattle.replay_core.specs.declared.strip.Strip.{Strip}
use Rattle.replay_core.specs.Desk.{IsStrip}
use Rattle.replay_core.proofs.desk.Desk.new.Given as goal

-- the strips of the instances so far
abbrev pub invariant-loop-inst : goal.invariant-loop-inst
invariant-loop-inst l = record {
  count : length l.strips.items ≡ l.inst;
  strips : (i : ℕ) (d : Strip) → i < length l.strips.items → IsStrip l.session i (slice_index_or l.strips.items i d);
}
