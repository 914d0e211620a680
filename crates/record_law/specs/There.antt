-- Which entries have a form in a session: those that name actors, rings and instances that are there.
use Rattle.std.specs.Prelude.{ℕ, nat_lt, nat_le, Bool, true, false, ◌&&◌, length}
use Rattle.std.specs.Option.{option_map_or}
use Rattle.step_law.specs.declared.actor.Actor.{Actor}
use Rattle.step_law.specs.declared.actor.Actor.TheVariants.{Audio, Control, Worker}
use Rattle.step_law.specs.declared.entry.Entry.{Entry}
use Rattle.step_law.specs.declared.event.Event.{Event}
use Rattle.step_law.specs.declared.event.Event.TheVariants.{Look, Take, Send, Full, Long, Begin, End}
use Rattle.step_law.specs.declared.ring.Ring.{Ring}
use Rattle.step_law.specs.declared.ring.Ring.TheVariants.{ControlToAudio, AudioToControl, ControlToWorker, WorkerToControl, Jobs, Responses, LocalJobs}
use Rattle.step_law.specs.Actor.{actor_at}
use Rattle.step_law.specs.Told.{event_of}
use Rattle.record_law.specs.declared.shape.Shape.{Shape}
use Rattle.record_law.specs.Shape.{works}

abbrev pub is_worker_there : Shape → ℕ → Bool
is_worker_there s worker = nat_le 1 worker && nat_le worker s.workers

abbrev pub is_actor_there : Shape → Actor → Bool
is_actor_there s Audio = true
is_actor_there s Control = true
is_actor_there s (Worker worker) = is_worker_there s worker

abbrev pub is_inst_there : Shape → ℕ → Bool
is_inst_there s inst = nat_lt inst (length s.insts)

-- the rings of jobs and responses are there exactly where the instance declares a worker
abbrev pub is_ring_there : Shape → Ring → Bool
is_ring_there s ControlToAudio = true
is_ring_there s AudioToControl = true
is_ring_there s (ControlToWorker worker) = is_worker_there s worker
is_ring_there s (WorkerToControl worker) = is_worker_there s worker
is_ring_there s (Jobs inst) = works s inst
is_ring_there s (Responses inst) = works s inst
is_ring_there s (LocalJobs inst) = works s inst

-- the ring or the instance that an event names
abbrev pub names_what_is_there : Shape → Event → Bool
names_what_is_there s (Look ring shown) = is_ring_there s ring
names_what_is_there s (Take ring) = is_ring_there s ring
names_what_is_there s (Send ring) = is_ring_there s ring
names_what_is_there s (Full ring) = is_ring_there s ring
names_what_is_there s (Long ring) = is_ring_there s ring
names_what_is_there s (Begin call inst) = is_inst_there s inst
names_what_is_there s (End call inst) = is_inst_there s inst
names_what_is_there s event = true

abbrev pub has_form : Shape → Entry → Bool
has_form s e = is_actor_there s (actor_at e.actor) && option_map_or (names_what_is_there s) (event_of e) false
