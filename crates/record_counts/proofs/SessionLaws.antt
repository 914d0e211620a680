-- What a session has: its workers and actors.
use Rattle.std.proofs.Common.{◌≡◌, ℕ, zero, suc, ◌+◌, ◌<◌, ◌≤◌, nat_le, true, List, [], ◌∷◌, length, slice_get, All, arith, leb-true}
use Rattle.std.specs.Option.{option_map_or}
use Rattle.std.proofs.lemmas.Bool.{and_parts}
use Rattle.std.proofs.lemmas.List.Elements.{All-head, All-tail}
use Rattle.step_law.specs.declared.ring.Ring.{Ring}
use Rattle.step_law.specs.declared.ring.Ring.TheVariants.{ControlToAudio, AudioToControl, ControlToWorker, WorkerToControl, Jobs, Responses, LocalJobs}
use Rattle.step_law.specs.Actor.{actor_number}
use Rattle.record_law.specs.declared.shape.Shape.{Shape}
use Rattle.record_law.specs.declared.shape.ShapeInst.{ShapeInst}
use Rattle.record_law.specs.Shape.{worker_of, sender}
use Rattle.record_law.specs.There.{is_ring_there}
use Rattle.record_terms.specs.Session.{IsSession}

worker_in : (workers : ℕ) (xs : List ShapeInst) (i : ℕ) → All (λ (it : ShapeInst). (0 < it.worker) × (it.worker ≤ workers)) xs
    → (option_map_or (λ (it : ShapeInst). it.worker) (slice_get xs i) 0 ≤ workers)
    × (i < length xs → 0 < option_map_or (λ (it : ShapeInst). it.worker) (slice_get xs i) 0)
worker_in workers [] i all = (omega arith, λ less. absurd (omega (arith, less)))
worker_in workers (x ∷ xs) zero all =
    let here = All-head (λ (it : ShapeInst). (0 < it.worker) × (it.worker ≤ workers)) x xs all in (here.1, λ less. here.0)
worker_in workers (x ∷ xs) (suc i) all =
    let later = worker_in workers xs i (All-tail (λ (it : ShapeInst). (0 < it.worker) × (it.worker ≤ workers)) x xs all) in (later.0, λ less. later.1 (omega (arith, less)))

pub worker_most : (s : Shape) (inst : ℕ) → IsSession s → worker_of s inst ≤ s.workers
worker_most s inst session = (worker_in s.workers s.insts inst session.owned).0

pub worker_some : (s : Shape) (inst : ℕ) → IsSession s → inst < length s.insts → 0 < worker_of s inst
worker_some s inst session less = (worker_in s.workers s.insts inst session.owned).1 less

pub sender_within : (s : Shape) (ring : Ring) → IsSession s → is_ring_there s ring ≡ true → actor_number (sender s ring) < 2 + s.workers
sender_within s ControlToAudio session there = omega arith
sender_within s AudioToControl session there = omega arith
sender_within s (ControlToWorker worker) session there = omega arith
sender_within s (WorkerToControl worker) session there = omega (arith, leb-true worker s.workers (and_parts (nat_le 1 worker) (nat_le worker s.workers) there).1)
sender_within s (Jobs inst) session there = omega arith
sender_within s (Responses inst) session there = omega (arith, worker_most s inst session)
sender_within s (LocalJobs inst) session there = omega (arith, worker_most s inst session)
