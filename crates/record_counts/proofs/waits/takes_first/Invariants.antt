use Rattle.std.proofs.Common.{◌≡◌, ℕ, ◌<◌, ◌≤◌, nat_lt, false}
use Rattle.step_law.specs.declared.ring.Ring.TheVariants.{WorkerToControl}
use Rattle.record_law.specs.History.{waiting}
use Rattle.record_law.specs.Message.{History}
use Rattle.record_counts.specs.Rings.{CountsRings}
use Rattle.record_counts.proofs.waits.takes_first.Given as goal

abbrev pub invariant-loop-worker : goal.invariant-loop-worker
invariant-loop-worker l = (h : History) → CountsRings l.shape h l.rings → (w : ℕ) → 1 ≤ w → w < l.worker → nat_lt 0 (waiting (WorkerToControl w) h) ≡ false
