-- Counts of a history are at most its length.
use Rattle.std.proofs.Common.{◌≡◌, ℕ, zero, suc, ◌+◌, ◌<◌, ◌≤◌, ◌^◌, ◌==◌, Bool, true, false, ◌&&◌, List, [], ◌∷◌, length, Option, Some, None, refl, ap, arith, ne_eqb, true≢false}
use Rattle.step_law.specs.declared.call.Call.{Call}
use Rattle.step_law.specs.declared.call.Call.TheVariants as call
use Rattle.step_law.specs.declared.entry.Kind.{Kind}
use Rattle.step_law.specs.declared.entry.Kind.TheVariants.{Block, Look, Take, Send, Full, Long, Done, Stop, Begin, End, Beat, Join, Late, Last}
use Rattle.step_law.specs.declared.ring.Ring.{Ring}
use Rattle.step_law.specs.declared.ring.Ring.TheVariants as ring
use Rattle.step_law.specs.Call.{call_at}
use Rattle.step_law.specs.Ring.{ring_number, ring_at}
use Rattle.record_law.specs.Entries.{kind_number, is_kind, is_on}
use Rattle.record_law.specs.Message.{Step, History}
use Rattle.record_law.specs.History.{one_more, count}
use Rattle.play_outcome.specs.Counts as counts
use Rattle.run_summary.specs.declared.counter.Counter.{Counter}
use Rattle.run_summary.specs.declared.counter.Counter.TheVariants.{Runs, Worked, Delivered}
use Rattle.run_summary.specs.Counting.{sent_on, refused_on, counter_of, of_inst, counted_at, HasRoom}
use Rattle.run_summary.specs.Tallies.{counts_of}

one_more_most : (b : Bool) (n : ℕ) → one_more b n ≤ n + 1
one_more_most true n = omega arith
one_more_most false n = omega arith

pub number_most : (test : Step → Bool) (h : History) → counts.number_of test h ≤ length h
number_most test [] = omega arith
number_most test (x ∷ h) = omega (arith, one_more_most (test x) (counts.number_of test h), number_most test h)

count_most : (kind : Kind) (r : Ring) (h : History) → count kind r h ≤ length h
count_most kind r [] = omega arith
count_most kind r (x ∷ h) = omega (arith, one_more_most (is_on kind r x.entry) (count kind r h), count_most kind r h)

-- one entry isn't both refusals
not_both : (n : ℕ) → ((n == 4) && (n == 5)) ≡ false
not_both zero = refl
not_both (suc zero) = refl
not_both (suc (suc zero)) = refl
not_both (suc (suc (suc zero))) = refl
not_both (suc (suc (suc (suc zero)))) = refl
not_both (suc (suc (suc (suc (suc zero))))) = refl
not_both (suc (suc (suc (suc (suc (suc n)))))) =
    let k : ℕ = suc (suc (suc (suc (suc (suc n))))) in
    ap (λ (b : Bool). b && (k == 5)) (ne_eqb k 4 (λ same. omega (arith, same)))

either_most : (a b p : Bool) (m n : ℕ) → (a && b) ≡ false → one_more (a && p) m + one_more (b && p) n ≤ m + n + 1
either_most true true p m n e = absurd (true≢false e)
either_most true false true m n e = omega arith
either_most true false false m n e = omega arith
either_most false true true m n e = omega arith
either_most false true false m n e = omega arith
either_most false false p m n e = omega arith

refused_most : (r : Ring) (h : History) → counts.refused r h ≤ length h
refused_most r [] = omega arith
refused_most r (x ∷ h) =
    omega (
      arith,
      either_most (is_kind Full x.entry) (is_kind Long x.entry) (x.entry.a == ring_number r) (count Full r h) (count Long r h) (not_both (kind_number x.entry.kind)),
      refused_most r h,
    )

-- ---- so there is room for one more

module _ (h : History) (failed : ℕ → ℕ) (less : length h < 2 ^ 63) where
  sent_room : (r : Ring) → HasRoom (sent_on r) (counts_of h failed)
  sent_room ring.ControlToAudio = tt
  sent_room ring.AudioToControl = tt
  sent_room (ring.ControlToWorker worker) = tt
  sent_room (ring.WorkerToControl worker) = tt
  sent_room (ring.Jobs inst) = omega (arith, count_most Send (ring.Jobs inst) h, count_most Send (ring.LocalJobs inst) h, less)
  sent_room (ring.LocalJobs inst) = omega (arith, count_most Send (ring.Jobs inst) h, count_most Send (ring.LocalJobs inst) h, less)
  sent_room (ring.Responses inst) = omega (arith, count_most Send (ring.Responses inst) h, less)

  refused_room : (r : Ring) → HasRoom (refused_on r) (counts_of h failed)
  refused_room ring.ControlToAudio = tt
  refused_room ring.AudioToControl = tt
  refused_room (ring.ControlToWorker worker) = tt
  refused_room (ring.WorkerToControl worker) = tt
  refused_room (ring.Jobs inst) = omega (arith, refused_most (ring.Jobs inst) h, refused_most (ring.LocalJobs inst) h, less)
  refused_room (ring.LocalJobs inst) = omega (arith, refused_most (ring.Jobs inst) h, refused_most (ring.LocalJobs inst) h, less)
  refused_room (ring.Responses inst) = omega (arith, refused_most (ring.Responses inst) h, less)

  -- the call that ended
  ended_room : (call : Option Call) (inst : ℕ) → HasRoom (of_inst inst (counter_of call)) (counts_of h failed)
  ended_room None inst = tt
  ended_room (Some call.Run) inst = omega (arith, number_most (λ x. is_kind End x.entry && (x.entry.a == 0) && (x.entry.b == inst)) h, less)
  ended_room (Some call.Response) inst = omega (arith, number_most (λ x. is_kind End x.entry && (x.entry.a == 1) && (x.entry.b == inst)) h, less)
  ended_room (Some call.EndRun) inst = tt
  ended_room (Some call.Work) inst = omega (arith, number_most (λ x. is_kind End x.entry && (x.entry.a == 3) && (x.entry.b == inst)) h, less)
  ended_room (Some call.Save) inst = tt
  ended_room (Some call.RestoreSafe) inst = tt
  ended_room (Some call.Make) inst = tt
  ended_room (Some call.Activate) inst = tt
  ended_room (Some call.Deactivate) inst = tt
  ended_room (Some call.Cleanup) inst = tt
  ended_room (Some call.Restore) inst = tt

  pub room : (kind : Kind) (a b : ℕ) → HasRoom (counted_at kind a b) (counts_of h failed)
  room Block a b = tt
  room Look a b = tt
  room Take a b = tt
  room Send a b = sent_room (ring_at a)
  room Full a b = refused_room (ring_at a)
  room Long a b = refused_room (ring_at a)
  room Done a b = tt
  room Stop a b = tt
  room Begin a b = tt
  room End a b = ended_room (call_at a) b
  room Beat a b = tt
  room Join a b = tt
  room Late a b = tt
  room Last a b = tt
