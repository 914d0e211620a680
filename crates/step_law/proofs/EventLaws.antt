-- An entry and the event that it tells of give each other back.
use Rattle.std.proofs.Common.{◌≡◌, ℕ, zero, suc, ◌+◌, ◌-◌, ◌*◌, ◌/◌, ◌%◌, ◌<◌, ◌≤◌, ◌==◌, nat_lt, true, Bool, Option, Some, None, refl, sym, ap, ◌∙◌, arith, ltb-true, lt-ltb, le-ltb, ltb-false, eq-eqb, ne_eqb, eqb-true, true≢false}
use Rattle.std.proofs.lemmas.Bool.{cond-true, cond-false, cond_both, and_parts, eqb-false}
use Rattle.step_law.specs.declared.actor.Actor.{Actor}
use Rattle.step_law.specs.declared.actor.Actor.TheVariants.{Audio, Control, Worker}
use Rattle.step_law.specs.declared.call.Call.{Call}
use Rattle.step_law.specs.declared.call.Call.TheVariants.{Run, Response, EndRun, Work, Save, RestoreSafe, Make, Activate, Deactivate, Cleanup, Restore}
use Rattle.step_law.specs.declared.entry.Entry.{Entry}
use Rattle.step_law.specs.declared.event.Event.{Event}
use Rattle.step_law.specs.declared.event.Event.TheVariants.{Block, Look, Take, Send, Full, Long, Done, Stop, Begin, End, Beat, Join, Late, Last}
use Rattle.step_law.specs.declared.ring.Ring.{Ring}
use Rattle.step_law.specs.declared.ring.Ring.TheVariants.{ControlToAudio, AudioToControl, ControlToWorker, WorkerToControl, Jobs, Responses, LocalJobs}
use Rattle.step_law.specs.Actor.{actor_number, actor_at}
use Rattle.step_law.specs.Call.{call_number, call_at}
use Rattle.step_law.specs.Event.{entry_from}
use Rattle.step_law.specs.Form.{is_worker, is_inst, is_ring, audio_tells, control_tells, worker_tells, tells, IsFormOf}
use Rattle.step_law.specs.Ring.{ring_number, ring_at, actor_ring_at, inst_ring_at}
use Rattle.step_law.specs.Told.{called, event_at, if_told, event_of}

-- ---- numbers of rings, calls and actors

-- what the tests of a worker and an instance say
pub worker_within : (w : ℕ) → is_worker w ≡ true → (0 < w) × (w < 9)
worker_within w h = let both = and_parts (nat_lt 0 w) (nat_lt w 9) h in (ltb-true 0 w both.0, ltb-true w 9 both.1)

pub inst_within : (i : ℕ) → is_inst i ≡ true → i < 32
inst_within i h = ltb-true i 32 h

-- a worker's ring has its number
to_worker : (n w : ℕ) → n ≡ 2 * w → 0 < w → w < 9 → ring_at n ≡ ControlToWorker w
to_worker zero w e some small = absurd (omega arith)
to_worker (suc zero) w e some small = absurd (omega arith)
to_worker (suc (suc n)) w e some small =
    cond-true (nat_lt (suc (suc n)) 18) (actor_ring_at (suc (suc n))) (inst_ring_at ((suc (suc n) - 18) / 3) ((suc (suc n) - 18) % 3)) (lt-ltb (suc (suc n)) 18 (omega arith))
    ∙ cond-true (suc (suc n) % 2 == 0) (ControlToWorker (suc (suc n) / 2)) (WorkerToControl (suc (suc n) / 2)) (eq-eqb (suc (suc n) % 2) 0 (omega arith))
    ∙ ap ControlToWorker (omega arith)

from_worker : (n w : ℕ) → n ≡ 2 * w + 1 → 0 < w → w < 9 → ring_at n ≡ WorkerToControl w
from_worker zero w e some small = absurd (omega arith)
from_worker (suc zero) w e some small = absurd (omega arith)
from_worker (suc (suc n)) w e some small =
    cond-true (nat_lt (suc (suc n)) 18) (actor_ring_at (suc (suc n))) (inst_ring_at ((suc (suc n) - 18) / 3) ((suc (suc n) - 18) % 3)) (lt-ltb (suc (suc n)) 18 (omega arith))
    ∙ cond-false (suc (suc n) % 2 == 0) (ControlToWorker (suc (suc n) / 2)) (WorkerToControl (suc (suc n) / 2)) (ne_eqb (suc (suc n) % 2) 0 (λ z. omega arith))
    ∙ ap WorkerToControl (omega arith)

-- an instance's ring has its number
of_inst : (n i place : ℕ) → n ≡ 18 + 3 * i + place → place < 3 → ring_at n ≡ inst_ring_at i place
of_inst n i place e small =
    cond-false (nat_lt n 18) (actor_ring_at n) (inst_ring_at ((n - 18) / 3) ((n - 18) % 3)) (le-ltb n 18 (omega arith))
    ∙ ap (λ k. inst_ring_at k ((n - 18) % 3)) (omega arith)
    ∙ ap (inst_ring_at i) (omega arith)

-- a ring is found by its number
pub ring_back : (ring : Ring) → is_ring ring ≡ true → ring_at (ring_number ring) ≡ ring
ring_back ControlToAudio h = refl
ring_back AudioToControl h = refl
ring_back (ControlToWorker w) h = let within = worker_within w h in to_worker (2 * w) w refl within.0 within.1
ring_back (WorkerToControl w) h = let within = worker_within w h in from_worker (2 * w + 1) w refl within.0 within.1
ring_back (Jobs i) h = of_inst (18 + 3 * i) i 0 (omega arith) (omega arith)
ring_back (Responses i) h = of_inst (19 + 3 * i) i 1 (omega arith) (omega arith)
ring_back (LocalJobs i) h = of_inst (20 + 3 * i) i 2 (omega arith) (omega arith)

actor_ring_same : (n : ℕ) → ring_number (actor_ring_at n) ≡ n
actor_ring_same zero = refl
actor_ring_same (suc zero) = refl
actor_ring_same (suc (suc n)) =
    cond_both (suc (suc n) % 2 == 0) (ControlToWorker (suc (suc n) / 2)) (WorkerToControl (suc (suc n) / 2)) (λ ring. ring_number ring ≡ suc (suc n))
    (λ even. omega (arith, eqb-true (suc (suc n) % 2) 0 even))
    (λ odd. let other : suc (suc n) % 2 ≡ 0 → ⊥ = eqb-false (suc (suc n) % 2) 0 odd in omega arith)

inst_ring_same : (i place : ℕ) → place < 3 → ring_number (inst_ring_at i place) ≡ 18 + 3 * i + place
inst_ring_same i zero h = omega arith
inst_ring_same i (suc zero) h = omega arith
inst_ring_same i (suc (suc zero)) h = omega arith
inst_ring_same i (suc (suc (suc n))) h = absurd (omega arith)

-- the ring with a number has that number
pub ring_same : (n : ℕ) → ring_number (ring_at n) ≡ n
ring_same n =
    cond_both (nat_lt n 18) (actor_ring_at n) (inst_ring_at ((n - 18) / 3) ((n - 18) % 3)) (λ ring. ring_number ring ≡ n)
    (λ low. actor_ring_same n)
    (λ high. let least : 18 ≤ n = ltb-false n 18 high in omega (arith, inst_ring_same ((n - 18) / 3) ((n - 18) % 3) (omega arith)))

-- a call is found by its number
pub call_back : (call : Call) → call_at (call_number call) ≡ Some call
call_back Run = refl
call_back Response = refl
call_back EndRun = refl
call_back Work = refl
call_back Save = refl
call_back RestoreSafe = refl
call_back Make = refl
call_back Activate = refl
call_back Deactivate = refl
call_back Cleanup = refl
call_back Restore = refl

-- the actor with a number has that number
pub actor_same : (n : ℕ) → actor_number (actor_at n) ≡ n
actor_same zero = refl
actor_same (suc zero) = refl
actor_same (suc (suc n)) = omega arith

-- ---- from an event to its entry and back

-- the rings of an event
abbrev pub has_rings : Event → Bool
has_rings (Look ring shown) = is_ring ring
has_rings (Take ring) = is_ring ring
has_rings (Send ring) = is_ring ring
has_rings (Full ring) = is_ring ring
has_rings (Long ring) = is_ring ring
has_rings _ = true

audio_rings : (event : Event) → audio_tells event ≡ true → has_rings event ≡ true
audio_rings (Look ring shown) h = h
audio_rings (Take ring) h = h
audio_rings (Send ring) h = h
audio_rings (Full ring) h = h
audio_rings (Long ring) h = h
audio_rings _ h = refl

control_rings : (event : Event) → control_tells event ≡ true → has_rings event ≡ true
control_rings (Look ring shown) h = absurd (true≢false (sym h))
control_rings (Take ring) h = h
control_rings (Send ring) h = h
control_rings (Full ring) h = absurd (true≢false (sym h))
control_rings (Long ring) h = absurd (true≢false (sym h))
control_rings _ h = refl

worker_rings : (event : Event) → worker_tells event ≡ true → has_rings event ≡ true
worker_rings (Look ring shown) h = absurd (true≢false (sym h))
worker_rings (Take ring) h = h
worker_rings (Send ring) h = h
worker_rings (Full ring) h = h
worker_rings (Long ring) h = h
worker_rings _ h = refl

pub told_rings : (actor : Actor) (event : Event) → tells actor event ≡ true → has_rings event ≡ true
told_rings Audio event h = audio_rings event h
told_rings Control event h = control_rings event h
told_rings (Worker w) event h = worker_rings event (and_parts (is_worker w) (worker_tells event) h).1

-- what an entry tells of, whoever tells it
abbrev told_by : Entry → Option Event
told_by e = event_at e.kind e.a e.b

told_back : (actor : Actor) (event : Event) → has_rings event ≡ true → told_by (entry_from actor event) ≡ Some event
told_back actor (Block block) h = refl
told_back actor (Look ring shown) h = ap (λ (r : Ring). Some (Look r shown)) (ring_back ring h)
told_back actor (Take ring) h = ap (λ (r : Ring). Some (Take r)) (ring_back ring h)
told_back actor (Send ring) h = ap (λ (r : Ring). Some (Send r)) (ring_back ring h)
told_back actor (Full ring) h = ap (λ (r : Ring). Some (Full r)) (ring_back ring h)
told_back actor (Long ring) h = ap (λ (r : Ring). Some (Long r)) (ring_back ring h)
told_back actor (Done block) h = refl
told_back actor Stop h = refl
told_back actor (Begin call inst) h = ap (called (λ (c : Call). Begin c inst)) (call_back call)
told_back actor (End call inst) h = ap (called (λ (c : Call). End c inst)) (call_back call)
told_back actor (Beat progress) h = refl
told_back actor Join h = refl
told_back actor (Late action) h = refl
told_back actor Last h = refl

-- an entry with a form tells of its event
pub form_told : (event : Event) (e : Entry) → IsFormOf event e → event_of e ≡ Some event
form_told event e form =
    let actor = actor_at e.actor in
    let told : told_by e ≡ Some event = ap told_by form.same ∙ told_back actor event (told_rings actor event form.told) in
    ap (if_told actor) told ∙ cond-true (tells actor event) (Some event) None form.told
