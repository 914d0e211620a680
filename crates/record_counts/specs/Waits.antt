-- What an actor waits for of the others: which instances are active, and who has stopped.
use Rattle.std.specs.Prelude.{◌≡◌, ℕ, ◌+◌, nat_lt, nat_eq, Bool, true, false, ◌&&◌, ◌||◌, length}
use Rattle.step_law.specs.declared.actor.Actor.TheVariants.{Control, Worker}
use Rattle.step_law.specs.declared.call.Call.TheVariants.{Activate, Deactivate}
use Rattle.step_law.specs.declared.entry.Entry.{Entry}
use Rattle.step_law.specs.declared.entry.Kind.{Kind}
use Rattle.step_law.specs.declared.entry.Kind.TheVariants.{Begin, End}
use Rattle.step_law.specs.declared.ring.Ring.TheVariants.{Jobs}
use Rattle.step_law.specs.Actor.{actor_number, actor_at}
use Rattle.step_law.specs.Entry.{begin_of, end_of, stop_of, join}
use Rattle.record_law.specs.declared.shape.Shape.{Shape}
use Rattle.record_law.specs.Message.{History}
use Rattle.record_law.specs.Entries.{same_entry}
use Rattle.record_law.specs.History.{waiting, has}
use Rattle.record_law.specs.Shape.{worker_of, works}
use Rattle.record_law.specs.Waits.{is_open}
use Rattle.record_counts.specs.declared.waits.Activity.{Activity}
use Rattle.record_counts.specs.declared.waits.Waits.{Waits}
use Rattle.record_counts.specs.Table.{IsTable}

abbrev pub activity_at : History → ℕ → Activity
activity_at h inst = record { activated = has (end_of Control Activate inst) h; deactivated = has (begin_of Control Deactivate inst) h }

abbrev pub stopped_at : History → ℕ → Bool
stopped_at h actor = has (stop_of (actor_at actor)) h

pub record TellsWaits (s : Shape) (h : History) (waits : Waits) : Type 0 where
  pub insts : IsTable (activity_at h) waits.insts
  pub all_insts : length waits.insts ≡ length s.insts
  pub stopped : IsTable (stopped_at h) waits.stopped
  pub all_actors : length waits.stopped ≡ 2 + s.workers
  pub opened : waits.is_open ≡ is_open s h
  pub joined : waits.is_joined ≡ has join h

-- what an entry makes of the activity of an instance
abbrev pub next_activity : ℕ → Entry → Activity → Activity
next_activity inst e before = record {
  activated = same_entry (end_of Control Activate inst) e || before.activated;
  deactivated = same_entry (begin_of Control Deactivate inst) e || before.deactivated;
}

-- an entry of one of these kinds is of a call
abbrev pub is_of_call : Kind → Bool
is_of_call Begin = true
is_of_call End = true
is_of_call kind = false

-- a job of an instance waits for an actor
abbrev pub has_job_of : Shape → History → (actor inst : ℕ) → Bool
has_job_of s h actor inst = nat_eq (actor_number (Worker (worker_of s inst))) actor && works s inst && nat_lt 0 (waiting (Jobs inst) h)
