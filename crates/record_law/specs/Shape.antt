-- What a session has: its instances and workers, and whose the rings are.
use Rattle.std.specs.Prelude.{ℕ, Bool, false, List, length, slice_get}
use Rattle.std.specs.List.{range_with_len}
use Rattle.std.specs.Option.{option_map_or}
use Rattle.step_law.specs.declared.actor.Actor.{Actor}
use Rattle.step_law.specs.declared.actor.Actor.TheVariants.{Audio, Control, Worker}
use Rattle.step_law.specs.declared.ring.Ring.{Ring}
use Rattle.step_law.specs.declared.ring.Ring.TheVariants.{ControlToAudio, AudioToControl, ControlToWorker, WorkerToControl, Jobs, Responses, LocalJobs}
use Rattle.record_law.specs.declared.shape.Shape.{Shape}
use Rattle.record_law.specs.declared.shape.ShapeInst.{ShapeInst}

-- instances are counted from 0, workers from 1
abbrev pub insts_of : Shape → List ℕ
insts_of s = range_with_len 0 (length s.insts)

abbrev pub workers_of : Shape → List ℕ
workers_of s = range_with_len 1 s.workers

-- the worker that an instance belongs to
abbrev pub worker_of : Shape → ℕ → ℕ
worker_of s inst = option_map_or (λ (it : ShapeInst). it.worker) (slice_get s.insts inst) 0

-- an instance schedules work; it has a reply port
abbrev pub works : Shape → ℕ → Bool
works s inst = option_map_or (λ (it : ShapeInst). it.works) (slice_get s.insts inst) false

abbrev pub replies : Shape → ℕ → Bool
replies s inst = option_map_or (λ (it : ShapeInst). it.replies) (slice_get s.insts inst) false

-- who sends on a ring
abbrev pub sender : Shape → Ring → Actor
sender s ControlToAudio = Control
sender s AudioToControl = Audio
sender s (ControlToWorker worker) = Control
sender s (WorkerToControl worker) = Worker worker
sender s (Jobs inst) = Audio
sender s (Responses inst) = Worker (worker_of s inst)
sender s (LocalJobs inst) = Worker (worker_of s inst)
