-- The rings: their numbers and names.
use Rattle.std.specs.Prelude.{ℕ, zero, suc, ◌+◌, ◌-◌, ◌*◌, ◌/◌, ◌%◌, ◌==◌, nat_lt, if◌then◌else◌, List, ◌++◌, codes, decimal}
use Rattle.step_law.specs.declared.ring.Ring.{Ring}
use Rattle.step_law.specs.declared.ring.Ring.TheVariants.{ControlToAudio, AudioToControl, ControlToWorker, WorkerToControl, Jobs, Responses, LocalJobs}

-- the number of a ring in an entry
abbrev pub ring_number : Ring → ℕ
ring_number ControlToAudio = 0
ring_number AudioToControl = 1
ring_number (ControlToWorker worker) = 2 * worker
ring_number (WorkerToControl worker) = 2 * worker + 1
ring_number (Jobs inst) = 18 + 3 * inst
ring_number (Responses inst) = 19 + 3 * inst
ring_number (LocalJobs inst) = 20 + 3 * inst

-- the ring of an actor: below 18
abbrev pub actor_ring_at : ℕ → Ring
actor_ring_at zero = ControlToAudio
actor_ring_at (suc zero) = AudioToControl
actor_ring_at n = if n % 2 == 0 then ControlToWorker (n / 2) else WorkerToControl (n / 2)

-- the ring of an instance: from 18 on, three each
abbrev pub inst_ring_at : ℕ → ℕ → Ring
inst_ring_at inst zero = Jobs inst
inst_ring_at inst (suc zero) = Responses inst
inst_ring_at inst _ = LocalJobs inst

-- the ring with a number
abbrev pub ring_at : ℕ → Ring
ring_at n = if nat_lt n 18 then actor_ring_at n else inst_ring_at ((n - 18) / 3) ((n - 18) % 3)

-- how a line names a ring
abbrev pub ring_name : Ring → List ℕ
ring_name ControlToAudio = codes "CA"
ring_name AudioToControl = codes "AC"
ring_name (ControlToWorker worker) = codes "CW" ++ decimal worker
ring_name (WorkerToControl worker) = codes "WC" ++ decimal worker
ring_name (Jobs inst) = codes "J" ++ decimal inst
ring_name (Responses inst) = codes "R" ++ decimal inst
ring_name (LocalJobs inst) = codes "L" ++ decimal inst
