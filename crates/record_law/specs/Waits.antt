-- What an actor waits for of the others.
use Rattle.std.specs.Prelude.{ℕ, nat_lt, nat_eq, Bool, true, not, ◌&&◌, ◌||◌, if◌then◌else◌, List, [], ◌∷◌}
use Rattle.std.specs.List.{list_all, list_any}
use Rattle.step_law.specs.declared.actor.Actor.TheVariants.{Audio, Control, Worker}
use Rattle.step_law.specs.declared.call.Call.TheVariants.{Activate}
use Rattle.step_law.specs.declared.entry.Entry.{Entry}
use Rattle.step_law.specs.declared.entry.Kind.TheVariants.{Stop, Join}
use Rattle.step_law.specs.declared.ring.Ring.{Ring}
use Rattle.step_law.specs.declared.ring.Ring.TheVariants.{Jobs}
use Rattle.step_law.specs.Actor.{actor_number}
use Rattle.step_law.specs.Entry.{take_of, end_of, stop_of, join}
use Rattle.record_law.specs.declared.shape.Shape.{Shape}
use Rattle.record_law.specs.Entries.{is_by, is_kind, same_entry}
use Rattle.record_law.specs.Message.{History}
use Rattle.record_law.specs.History.{waiting, has}
use Rattle.record_law.specs.Shape.{insts_of, workers_of, worker_of, works}
use Rattle.record_law.specs.Control.{rings_left}

-- all instances were made and activated
abbrev pub is_open : Shape → History → Bool
is_open s h = list_all (λ inst. has (end_of Control Activate inst) h) (insts_of s)

-- a job waits for the actor, if it is a worker
abbrev pub has_job : Shape → History → ℕ → Bool
has_job s h actor =
    list_any (λ inst. nat_eq (actor_number (Worker (worker_of s inst))) actor && works s inst && nat_lt 0 (waiting (Jobs inst) h)) (insts_of s)

-- audio and all workers have stopped
abbrev pub all_stopped : Shape → History → Bool
all_stopped s h = has (stop_of Audio) h && list_all (λ worker. has (stop_of (Worker worker)) h) (workers_of s)

-- the first of these rings in which something is left is the one that an entry takes from
abbrev pub takes_first : List Ring → History → Entry → Bool
takes_first [] h e = true
takes_first (ring ∷ rings) h e = if nat_lt 0 (waiting ring h) then same_entry (take_of Control ring) e else takes_first rings h e

-- Audio and workers begin after the opening; a worker stops once no job waits for it; control joins once all others have stopped, and
-- then takes what is left before all else.
abbrev pub may_come : Shape → History → Entry → Bool
may_come s h e =
    (is_by Control e || is_open s h)
    && not (is_kind Stop e && has_job s h e.actor)
    && (not (is_kind Join e) || all_stopped s h)
    && (not (is_by Control e && has join h) || takes_first (rings_left s) h e)
