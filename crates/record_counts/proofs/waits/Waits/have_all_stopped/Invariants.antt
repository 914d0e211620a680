use Rattle.std.proofs.Common.{◌≡◌, ℕ, ◌<◌, ◌≤◌, true}
use Rattle.step_law.specs.declared.actor.Actor.TheVariants.{Worker}
use Rattle.step_law.specs.Entry.{stop_of}
use Rattle.record_law.specs.History.{has}
use Rattle.record_law.specs.Message.{History}
use Rattle.record_counts.specs.Waits.{TellsWaits}
use Rattle.record_counts.proofs.waits.Waits.have_all_stopped.Given as goal

abbrev pub invariant-loop-worker : goal.invariant-loop-worker
invariant-loop-worker l = (h : History) → TellsWaits l.shape h l.self → (w : ℕ) → 1 ≤ w → w < l.worker → has (stop_of (Worker w)) h ≡ true
