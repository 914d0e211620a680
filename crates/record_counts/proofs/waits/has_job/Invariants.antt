use Rattle.std.proofs.Common.{◌≡◌, ℕ, ◌<◌, false}
use Rattle.record_law.specs.Message.{History}
use Rattle.record_counts.specs.Rings.{CountsRings}
use Rattle.record_counts.specs.Waits.{has_job_of}
use Rattle.record_counts.proofs.waits.has_job.Given as goal

abbrev pub invariant-loop-inst : goal.invariant-loop-inst
invariant-loop-inst l = (h : History) → CountsRings l.shape h l.rings → (i : ℕ) → i < l.inst → has_job_of l.shape h l.actor i ≡ false
