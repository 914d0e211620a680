-- No ring gives more messages than were sent on it.
use Rattle.std.proofs.Common.{◌≡◌, ℕ, ◌-◌, ◌<◌, ◌≤◌, ◌==◌, Bool, true, false, ◌&&◌, [], ◌∷◌, refl, subst, ◌∙◌, arith, eqb-true, ltb-true}
use Rattle.step_law.specs.declared.entry.Kind.{Kind}
use Rattle.step_law.specs.declared.entry.Kind.TheVariants.{Block, Look, Take, Send, Full, Long, Done, Stop, Begin, End, Beat, Join, Late, Last}
use Rattle.step_law.specs.declared.ring.Ring.{Ring}
use Rattle.step_law.specs.Ring.{ring_at, ring_number}
use Rattle.step_law.proofs.EventLaws.{ring_same}
use Rattle.record_law.specs.Entries.{is_kind, kind_number}
use Rattle.record_law.specs.History.{one_more, count, waiting}
use Rattle.record_law.specs.Message.{History}
use Rattle.record_law.specs.Room.{finds_message}
use Rattle.play_known.specs.Rings.{TakesStaySent}

-- what is counted of a ring goes by its number
count_same : (kind : Kind) (ring other : Ring) → ring_number ring ≡ ring_number other → (h : History) → count kind ring h ≡ count kind other h
count_same kind ring other same [] = refl
count_same kind ring other same (x ∷ h) =
    λ t. one_more (is_kind kind x.entry && (x.entry.a == same t)) (count_same kind ring other same h t)

one_more_sent : (b : Bool) (taken sent : ℕ) → taken ≤ sent → taken ≤ one_more b sent
one_more_sent true taken sent few = omega (few, arith)
one_more_sent false taken sent few = few

-- a take on the ring takes one that waits
one_more_taken : (b : Bool) (taken sent : ℕ) → (b ≡ true → 0 < sent - taken) → taken ≤ sent → one_more b taken ≤ sent
one_more_taken true taken sent some few = omega (some refl, few, arith)
one_more_taken false taken sent some few = few

pub takes_stay_sent : TakesStaySent
takes_stay_sent h x sent finds ring = by x.entry.kind finds
  where
    there : finds_message h Take x.entry.a ≡ true → (x.entry.a == ring_number ring) ≡ true → 0 < waiting ring h
    there found is =
        let number : ring_number (ring_at x.entry.a) ≡ ring_number ring = ring_same x.entry.a ∙ eqb-true x.entry.a (ring_number ring) is in
        subst (λ n. 0 < n) (λ t. count_same Send (ring_at x.entry.a) ring number h t - count_same Take (ring_at x.entry.a) ring number h t)
        (ltb-true 0 (waiting (ring_at x.entry.a) h) found)

    by : (kind : Kind) → finds_message h kind x.entry.a ≡ true
        → one_more ((kind_number kind == 2) && (x.entry.a == ring_number ring)) (count Take ring h)
        ≤ one_more ((kind_number kind == 3) && (x.entry.a == ring_number ring)) (count Send ring h)
    by Take found = one_more_taken (x.entry.a == ring_number ring) (count Take ring h) (count Send ring h) (there found) (sent ring)
    by Send found = one_more_sent (x.entry.a == ring_number ring) (count Take ring h) (count Send ring h) (sent ring)
    by Block found = sent ring
    by Look found = sent ring
    by Full found = sent ring
    by Long found = sent ring
    by Done found = sent ring
    by Stop found = sent ring
    by Begin found = sent ring
    by End found = sent ring
    by Beat found = sent ring
    by Join found = sent ring
    by Late found = sent ring
    by Last found = sent ring
