-- Which events each actor may tell of: the forms of an entry.
use Rattle.std.specs.Prelude.{◌≡◌, ℕ, nat_lt, ◌<◌, ◌^◌, Bool, true, false, ◌&&◌}
use Rattle.step_law.specs.declared.actor.Actor.{Actor}
use Rattle.step_law.specs.declared.actor.Actor.TheVariants.{Audio, Control, Worker}
use Rattle.step_law.specs.declared.call.Call.{Call}
use Rattle.step_law.specs.declared.call.Call.TheVariants.{Run, Response, EndRun, Work, Save, RestoreSafe, Make, Activate, Deactivate, Cleanup, Restore}
use Rattle.step_law.specs.declared.entry.Entry.{Entry}
use Rattle.step_law.specs.declared.event.Event.{Event}
use Rattle.step_law.specs.declared.event.Event.TheVariants.{Block, Look, Take, Send, Full, Long, Done, Stop, Begin, End, Beat, Join, Late, Last}
use Rattle.step_law.specs.declared.ring.Ring.{Ring}
use Rattle.step_law.specs.declared.ring.Ring.TheVariants.{ControlToAudio, AudioToControl, ControlToWorker, WorkerToControl, Jobs, Responses, LocalJobs}
use Rattle.step_law.specs.Actor.{actor_at}
use Rattle.step_law.specs.Event.{entry_from}

-- workers count from 1 to 8, instances are below 32
abbrev pub is_worker : ℕ → Bool
is_worker worker = nat_lt 0 worker && nat_lt worker 9

abbrev pub is_inst : ℕ → Bool
is_inst inst = nat_lt inst 32

-- a ring of such a worker or instance
abbrev pub is_ring : Ring → Bool
is_ring ControlToAudio = true
is_ring AudioToControl = true
is_ring (ControlToWorker worker) = is_worker worker
is_ring (WorkerToControl worker) = is_worker worker
is_ring (Jobs inst) = is_inst inst
is_ring (Responses inst) = is_inst inst
is_ring (LocalJobs inst) = is_inst inst

-- the calls that audio, control and a worker make
abbrev pub audio_calls : Call → Bool
audio_calls Run = true
audio_calls Response = true
audio_calls EndRun = true
audio_calls _ = false

abbrev pub control_calls : Call → Bool
control_calls Make = true
control_calls Activate = true
control_calls Deactivate = true
control_calls Cleanup = true
control_calls Save = true
control_calls Restore = true
control_calls _ = false

abbrev pub worker_calls : Call → Bool
worker_calls Work = true
worker_calls Save = true
worker_calls RestoreSafe = true
worker_calls _ = false

-- what audio tells of
abbrev pub audio_tells : Event → Bool
audio_tells (Block block) = true
audio_tells (Look ring shown) = is_ring ring
audio_tells (Take ring) = is_ring ring
audio_tells (Send ring) = is_ring ring
audio_tells (Full ring) = is_ring ring
audio_tells (Long ring) = is_ring ring
audio_tells (Done block) = true
audio_tells Stop = true
audio_tells (Begin call inst) = audio_calls call && is_inst inst
audio_tells (End call inst) = audio_calls call && is_inst inst
audio_tells _ = false

-- what control tells of; the end of the record is its own
abbrev pub control_tells : Event → Bool
control_tells (Take ring) = is_ring ring
control_tells (Send ring) = is_ring ring
control_tells (Begin call inst) = control_calls call && is_inst inst
control_tells (End call inst) = control_calls call && is_inst inst
control_tells (Beat progress) = true
control_tells Join = true
control_tells (Late action) = true
control_tells Last = true
control_tells _ = false

-- what a worker tells of
abbrev pub worker_tells : Event → Bool
worker_tells (Take ring) = is_ring ring
worker_tells (Send ring) = is_ring ring
worker_tells (Full ring) = is_ring ring
worker_tells (Long ring) = is_ring ring
worker_tells Stop = true
worker_tells (Begin call inst) = worker_calls call && is_inst inst
worker_tells (End call inst) = worker_calls call && is_inst inst
worker_tells _ = false

-- an actor may tell of an event
abbrev pub tells : Actor → Event → Bool
tells Audio event = audio_tells event
tells Control event = control_tells event
tells (Worker worker) event = is_worker worker && worker_tells event

-- an entry is the form of an event that its actor may tell of
pub record IsFormOf (event : Event) (e : Entry) : Type 0 where
  pub told : tells (actor_at e.actor) event ≡ true
  pub same : e ≡ entry_from (actor_at e.actor) event

-- an entry has a form, and its numbers are of 32 bits
pub record IsForm (e : Entry) : Type 0 where
  pub event : Event
  pub form : IsFormOf event e
  pub a_fits : e.a < 2 ^ 32
  pub b_fits : e.b < 2 ^ 32
