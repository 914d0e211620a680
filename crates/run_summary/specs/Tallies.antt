-- What a run counts is what the history of its entries says.
use Rattle.std.specs.Prelude.{◌≡◌, ℕ, ◌+◌, ◌==◌, if◌then◌else◌, length}
use Rattle.step_law.specs.declared.call.Call.TheVariants as call
use Rattle.step_law.specs.declared.entry.Kind.TheVariants.{Send}
use Rattle.step_law.specs.declared.ring.Ring.TheVariants.{Jobs, Responses, LocalJobs}
use Rattle.graph_order.specs.declared.setup.Setup.{Setup}
use Rattle.record_law.specs.Message.{History}
use Rattle.record_law.specs.History.{count}
use Rattle.record_counts.specs.Table.{IsTable}
use Rattle.play_outcome.specs.Counts as counts
use Rattle.run_summary.specs.declared.counter.InstTally.{InstTally}
use Rattle.run_summary.specs.declared.tally.Tally.{Tally}

-- the counts of an instance after a history, where so many works of each instance failed
abbrev pub counts_of : History → (ℕ → ℕ) → ℕ → InstTally
counts_of h failed inst = record {
  runs = counts.ended call.Run inst h;
  jobs = count Send (Jobs inst) h + count Send (LocalJobs inst) h;
  refused = counts.refused (Jobs inst) h + counts.refused (LocalJobs inst) h;
  worked = counts.ended call.Work inst h;
  responses = count Send (Responses inst) h;
  dropped = counts.refused (Responses inst) h;
  delivered = counts.ended call.Response inst h;
  errors = failed inst;
}

-- the counts of all instances, which actions audio took, and what is counted of the whole
pub record Tallies (setup : Setup) (h : History) (failed : ℕ → ℕ) (tally : Tally) : Type 0 where
  pub each : IsTable (counts_of h failed) tally.insts
  pub insts : length tally.insts ≡ length setup.session.insts
  pub took : IsTable (counts.was_taken h) tally.taken
  pub actions : length tally.taken ≡ length setup.session.actions
  pub losses : tally.lost ≡ counts.lost h
  pub steps : tally.entries ≡ counts.entries h

-- one more work of an instance failed
abbrev pub one_failed : ℕ → (ℕ → ℕ) → ℕ → ℕ
one_failed inst failed other = if inst == other then failed other + 1 else failed other
