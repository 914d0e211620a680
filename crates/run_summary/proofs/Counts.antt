-- The counts of an instance with one entry more.
use Rattle.std.proofs.Common.{◌≡◌, ℕ, zero, suc, ◌+◌, ◌*◌, ◌==◌, ◌&&◌, Bool, true, false, ◌∷◌, cond, refl, ◌∙◌, arith, ne_eqb}
use Rattle.step_law.specs.declared.call.Call.TheVariants as call
use Rattle.step_law.specs.declared.entry.Entry.{Entry}
use Rattle.step_law.specs.declared.entry.Kind.{Kind}
use Rattle.step_law.specs.declared.entry.Kind.TheVariants.{Block, Look, Take, Send, Full, Long, Done, Stop, Begin, End, Beat, Join, Late, Last}
use Rattle.step_law.specs.declared.ring.Ring.{Ring}
use Rattle.step_law.specs.declared.ring.Ring.TheVariants as ring
use Rattle.step_law.specs.Ring.{ring_at}
use Rattle.record_law.specs.Message.{Message, Step, History}
use Rattle.record_law.specs.History.{one_more, count}
use Rattle.play_outcome.specs.Counts as counts
use Rattle.run_summary.specs.declared.counter.Counter.TheVariants.{Runs, Jobs, Refused, Worked, Responses, Dropped, Delivered}
use Rattle.run_summary.specs.declared.counter.InstTally.{InstTally}
use Rattle.run_summary.specs.Counting.{one_up, sent_on, refused_on, counted_at, counted_for, raised_by}
use Rattle.run_summary.specs.Tallies.{counts_of}
use Rattle.run_summary.proofs.Rings.{is_jobs, is_responses, is_locals, ring_jobs, ring_responses, ring_locals}

abbrev told : ℕ → ℕ → ℕ → ℕ → ℕ → ℕ → ℕ → ℕ → InstTally
told a b c d e f g k = record { runs = a; jobs = b; refused = c; worked = d; responses = e; dropped = f; delivered = g; errors = k }

module _ (h : History) (failed : ℕ → ℕ) (i : ℕ) where
  abbrev before : InstTally
  before = counts_of h failed i

  -- with a message on one of the rings
  abbrev sent_with : Bool → Bool → Bool → InstTally
  sent_with p q s =
      told before.runs (one_more p (count Send (ring.Jobs i) h) + one_more q (count Send (ring.LocalJobs i) h)) before.refused before.worked
      (one_more s (count Send (ring.Responses i) h)) before.dropped before.delivered before.errors

  -- with one that found no room, and with one that was too long
  abbrev full_with : Bool → Bool → Bool → InstTally
  full_with p q s =
      told before.runs before.jobs
      ((one_more p (count Full (ring.Jobs i) h) + count Long (ring.Jobs i) h) + (one_more q (count Full (ring.LocalJobs i) h) + count Long (ring.LocalJobs i) h))
      before.worked before.responses (one_more s (count Full (ring.Responses i) h) + count Long (ring.Responses i) h) before.delivered before.errors

  abbrev long_with : Bool → Bool → Bool → InstTally
  long_with p q s =
      told before.runs before.jobs
      ((count Full (ring.Jobs i) h + one_more p (count Long (ring.Jobs i) h)) + (count Full (ring.LocalJobs i) h + one_more q (count Long (ring.LocalJobs i) h)))
      before.worked before.responses (count Full (ring.Responses i) h + one_more s (count Long (ring.Responses i) h)) before.delivered before.errors

  sent : (r : Ring) → sent_with (is_jobs i r) (is_locals i r) (is_responses i r) ≡ raised_by (sent_on r) i before
  sent ring.ControlToAudio = refl
  sent ring.AudioToControl = refl
  sent (ring.ControlToWorker worker) = refl
  sent (ring.WorkerToControl worker) = refl
  sent (ring.Jobs j) = by (j == i)
    where
      by : (b : Bool) → sent_with b false false ≡ cond b (one_up Jobs before) before
      by true =
          let more : suc (count Send (ring.Jobs i) h) + count Send (ring.LocalJobs i) h ≡ before.jobs + 1 = omega arith in
          λ t. told before.runs (more t) before.refused before.worked before.responses before.dropped before.delivered before.errors
      by false = refl
  sent (ring.LocalJobs j) = by (j == i)
    where
      by : (b : Bool) → sent_with false b false ≡ cond b (one_up Jobs before) before
      by true =
          let more : count Send (ring.Jobs i) h + suc (count Send (ring.LocalJobs i) h) ≡ before.jobs + 1 = omega arith in
          λ t. told before.runs (more t) before.refused before.worked before.responses before.dropped before.delivered before.errors
      by false = refl
  sent (ring.Responses j) = by (j == i)
    where
      by : (b : Bool) → sent_with false false b ≡ cond b (one_up Responses before) before
      by true =
          let more : suc (count Send (ring.Responses i) h) ≡ before.responses + 1 = omega arith in
          λ t. told before.runs before.jobs before.refused before.worked (more t) before.dropped before.delivered before.errors
      by false = refl

  refused_more : (n m : ℕ) → n ≡ before.refused + 1 → m ≡ before.dropped → told before.runs before.jobs n before.worked before.responses m before.delivered before.errors ≡ one_up Refused before
  refused_more n m more same = λ t. told before.runs before.jobs (more t) before.worked before.responses (same t) before.delivered before.errors

  dropped_more : (n m : ℕ) → n ≡ before.refused → m ≡ before.dropped + 1 → told before.runs before.jobs n before.worked before.responses m before.delivered before.errors ≡ one_up Dropped before
  dropped_more n m same more = λ t. told before.runs before.jobs (same t) before.worked before.responses (more t) before.delivered before.errors

  full : (r : Ring) → full_with (is_jobs i r) (is_locals i r) (is_responses i r) ≡ raised_by (refused_on r) i before
  full ring.ControlToAudio = refl
  full ring.AudioToControl = refl
  full (ring.ControlToWorker worker) = refl
  full (ring.WorkerToControl worker) = refl
  full (ring.Jobs j) = by (j == i)
    where
      by : (b : Bool) → full_with b false false ≡ cond b (one_up Refused before) before
      by true = refused_more _ _ (omega arith) refl
      by false = refl
  full (ring.LocalJobs j) = by (j == i)
    where
      by : (b : Bool) → full_with false b false ≡ cond b (one_up Refused before) before
      by true = refused_more _ _ (omega arith) refl
      by false = refl
  full (ring.Responses j) = by (j == i)
    where
      by : (b : Bool) → full_with false false b ≡ cond b (one_up Dropped before) before
      by true = dropped_more _ _ refl (omega arith)
      by false = refl

  long : (r : Ring) → long_with (is_jobs i r) (is_locals i r) (is_responses i r) ≡ raised_by (refused_on r) i before
  long ring.ControlToAudio = refl
  long ring.AudioToControl = refl
  long (ring.ControlToWorker worker) = refl
  long (ring.WorkerToControl worker) = refl
  long (ring.Jobs j) = by (j == i)
    where
      by : (b : Bool) → long_with b false false ≡ cond b (one_up Refused before) before
      by true = refused_more _ _ (omega arith) refl
      by false = refl
  long (ring.LocalJobs j) = by (j == i)
    where
      by : (b : Bool) → long_with false b false ≡ cond b (one_up Refused before) before
      by true = refused_more _ _ (omega arith) refl
      by false = refl
  long (ring.Responses j) = by (j == i)
    where
      by : (b : Bool) → long_with false false b ≡ cond b (one_up Dropped before) before
      by true = dropped_more _ _ refl (omega arith)
      by false = refl

  -- with the end of a call
  run_more : (b : Bool) → told (one_more b before.runs) before.jobs before.refused before.worked before.responses before.dropped before.delivered before.errors ≡ cond b (one_up Runs before) before
  run_more true = let more : suc before.runs ≡ before.runs + 1 = omega arith in λ t. told (more t) before.jobs before.refused before.worked before.responses before.dropped before.delivered before.errors
  run_more false = refl

  work_more : (b : Bool) → told before.runs before.jobs before.refused (one_more b before.worked) before.responses before.dropped before.delivered before.errors ≡ cond b (one_up Worked before) before
  work_more true = let more : suc before.worked ≡ before.worked + 1 = omega arith in λ t. told before.runs before.jobs before.refused (more t) before.responses before.dropped before.delivered before.errors
  work_more false = refl

  response_more : (b : Bool) → told before.runs before.jobs before.refused before.worked before.responses before.dropped (one_more b before.delivered) before.errors ≡ cond b (one_up Delivered before) before
  response_more true = let more : suc before.delivered ≡ before.delivered + 1 = omega arith in λ t. told before.runs before.jobs before.refused before.worked before.responses before.dropped (more t) before.errors
  response_more false = refl

  abbrev after : Kind → ℕ → ℕ → ℕ → Message → InstTally
  after kind actor a b about = let x : Step = record { entry = record { actor = actor; kind = kind; a = a; b = b }; about = about } in counts_of (x ∷ h) failed i

  ended : (actor a b : ℕ) (about : Message) → after End actor a b about ≡ raised_by (counted_at End a b) i before
  ended actor zero b about = run_more (b == i)
  ended actor (suc zero) b about = response_more (b == i)
  ended actor (suc (suc zero)) b about = refl
  ended actor (suc (suc (suc zero))) b about = work_more (b == i)
  ended actor (suc (suc (suc (suc zero)))) b about = refl
  ended actor (suc (suc (suc (suc (suc zero))))) b about = refl
  ended actor (suc (suc (suc (suc (suc (suc zero)))))) b about = refl
  ended actor (suc (suc (suc (suc (suc (suc (suc zero))))))) b about = refl
  ended actor (suc (suc (suc (suc (suc (suc (suc (suc zero)))))))) b about = refl
  ended actor (suc (suc (suc (suc (suc (suc (suc (suc (suc zero))))))))) b about = refl
  ended actor (suc (suc (suc (suc (suc (suc (suc (suc (suc (suc zero)))))))))) b about = refl
  ended actor (suc (suc (suc (suc (suc (suc (suc (suc (suc (suc (suc a))))))))))) b about =
      let n : ℕ = suc (suc (suc (suc (suc (suc (suc (suc (suc (suc (suc a)))))))))) in
      let run : (n == 0) ≡ false = ne_eqb n 0 (λ same. omega (arith, same)) in
      let work : (n == 3) ≡ false = ne_eqb n 3 (λ same. omega (arith, same)) in
      let response : (n == 1) ≡ false = ne_eqb n 1 (λ same. omega (arith, same)) in
      λ t. told (one_more (run t && (b == i)) before.runs) before.jobs before.refused (one_more (work t && (b == i)) before.worked) before.responses before.dropped
      (one_more (response t && (b == i)) before.delivered) before.errors

  by_kind : (kind : Kind) (actor a b : ℕ) (about : Message) → after kind actor a b about ≡ raised_by (counted_at kind a b) i before
  by_kind Block actor a b about = refl
  by_kind Look actor a b about = refl
  by_kind Take actor a b about = refl
  by_kind Send actor a b about = (λ t. sent_with (ring_jobs a i t) (ring_locals a i t) (ring_responses a i t)) ∙ sent (ring_at a)
  by_kind Full actor a b about = (λ t. full_with (ring_jobs a i t) (ring_locals a i t) (ring_responses a i t)) ∙ full (ring_at a)
  by_kind Long actor a b about = (λ t. long_with (ring_jobs a i t) (ring_locals a i t) (ring_responses a i t)) ∙ long (ring_at a)
  by_kind Done actor a b about = refl
  by_kind Stop actor a b about = refl
  by_kind Begin actor a b about = refl
  by_kind End actor a b about = ended actor a b about
  by_kind Beat actor a b about = refl
  by_kind Join actor a b about = refl
  by_kind Late actor a b about = refl
  by_kind Last actor a b about = refl

  pub counts_more : (x : Step) → counts_of (x ∷ h) failed i ≡ raised_by (counted_for x.entry) i before
  counts_more x = by_kind x.entry.kind x.entry.actor x.entry.a x.entry.b x.about
