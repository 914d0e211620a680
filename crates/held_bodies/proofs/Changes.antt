-- One ring changes, and no other.
use Rattle.std.proofs.Common.{◌≡◌, inl, inr, ℕ, ◌==◌, Bool, true, false, if◌then◌else◌, List, slice_get, slice_set, Some, refl, sym, ap, subst, ◌∙◌, eqb-true, eq-eqb, arith}
use Rattle.std.proofs.lemmas.Bool.{eqb-false}
use Rattle.step_law.specs.declared.ring.Ring.{Ring}
use Rattle.step_law.specs.declared.ring.Ring.TheVariants.{AudioToControl, Jobs, Responses, LocalJobs}
use Rattle.step_law.specs.Ring.{ring_number}
use Rattle.order_base.proofs.Lists.{get_set_same, get_set_other}
use Rattle.held_bodies.specs.declared.bodies.Bodies.{Bodies}
use Rattle.held_bodies.specs.declared.bodies.InstBodies.{InstBodies}
use Rattle.held_bodies.specs.Waiting.{AreBodies, ShowBodies, changed_on}
use Rattle.held_bodies.specs.Laws.{ChangesOne, JobsChange, ResponsesChange, LocalJobsChange, RepliesChange, OthersStay}

-- ---- what waits on a ring

abbrev Waiting : Type 0
Waiting = Ring → List (List ℕ)

abbrev Change : Type 0
Change = List (List ℕ) → List (List ℕ)

decided : (b : Bool) → (b ≡ true → ⊥) → b ≡ false
decided true never = absurd (never refl)
decided false never = refl

there : (number : ℕ) (change : Change) (waiting : Waiting) (ring : Ring) → number ≡ ring_number ring → changed_on number change waiting ring ≡ change (waiting ring)
there number change waiting ring is =
    ap (λ b. if b then change (waiting ring) else waiting ring) (eq-eqb number (ring_number ring) is)

elsewhere : (number : ℕ) (change : Change) (waiting : Waiting) (ring : Ring) → (number ≡ ring_number ring → ⊥) → changed_on number change waiting ring ≡ waiting ring
elsewhere number change waiting ring differs =
    ap (λ b. if b then change (waiting ring) else waiting ring)
    (decided (number == ring_number ring) (λ is. differs (eqb-true number (ring_number ring) is)))

-- the bodies of an instance, none of whose rings has this number
stay : (waiting : Waiting) (number : ℕ) (change : Change) (inst : ℕ) (it : InstBodies) → (number ≡ ring_number (Jobs inst) → ⊥)
    → (number ≡ ring_number (Responses inst) → ⊥) → (number ≡ ring_number (LocalJobs inst) → ⊥) → AreBodies waiting inst it
    → AreBodies (changed_on number change waiting) inst it
stay waiting number change inst it no_job no_response no_local are = record {
  are_jobs = elsewhere number change waiting (Jobs inst) no_job ∙ are.are_jobs;
  are_responses = elsewhere number change waiting (Responses inst) no_response ∙ are.are_responses;
  are_local = elsewhere number change waiting (LocalJobs inst) no_local ∙ are.are_local;
}

-- ---- the rings of an instance

-- one instance has others, and no ring of another has this number
changes_one : (waiting : Waiting) (number : ℕ) (change : Change) (bodies after : Bodies) (inst : ℕ) (it then_it : InstBodies) → ShowBodies waiting bodies
    → ChangesOne bodies after inst it then_it → (1 ≡ number → ⊥)
    → ((other : ℕ) → (inst ≡ other → ⊥) → (number ≡ ring_number (Jobs other) → ⊥) × (number ≡ ring_number (Responses other) → ⊥) × (number ≡ ring_number (LocalJobs other) → ⊥))
    → AreBodies (changed_on number change waiting) inst then_it → ShowBodies (changed_on number change waiting) after
changes_one waiting number change bodies after inst it then_it show changes no_reply others are = record {
  kept = λ other its got. by other its (ap (λ l. slice_get l other) (sym changes.each) ∙ got) (inst == other) refl;
  are_replies =
      elsewhere number change waiting AudioToControl (λ is. no_reply (sym is)) ∙ show.are_replies ∙ ap (λ replies. replies.items) (sym changes.replies);
}
  where
    by : (other : ℕ) (its : InstBodies) → slice_get (slice_set bodies.each.items inst then_it) other ≡ Some its → (b : Bool) → (inst == other) ≡ b
        → AreBodies (changed_on number change waiting) other its
    by other its got true same =
        let is : inst ≡ other = eqb-true inst other same in
        let mine : its ≡ then_it = get_set_same bodies.each.items inst then_it its (ap (slice_get (slice_set bodies.each.items inst then_it)) is ∙ got) in
        subst (λ n. AreBodies (changed_on number change waiting) n its) is
        (subst (λ x. AreBodies (changed_on number change waiting) inst x) (sym mine) are)
    by other its got false differs =
        let apart = eqb-false inst other differs in
        let none = others other apart in
        stay waiting number change other its none.0 none.1 none.2
        (show.kept other its (sym (get_set_other bodies.each.items inst other then_it apart) ∙ got))

pub jobs_change : JobsChange
jobs_change waiting bodies after inst it then_it change show changes jobs responses local =
    let number = ring_number (Jobs inst) in
    let are = show.kept inst it changes.here in
    changes_one waiting number change bodies after inst it then_it show changes (λ is. absurd (omega (arith, is)))
    (λ other apart. (
      λ is. apart (omega (arith, is)),
      λ is. absurd (omega (arith, is)),
      λ is. absurd (omega (arith, is)),
    ))
    (record {
      are_jobs = there number change waiting (Jobs inst) refl ∙ ap change are.are_jobs ∙ sym jobs;
      are_responses =
          elsewhere number change waiting (Responses inst) (λ is. absurd (omega (arith, is))) ∙ are.are_responses ∙ ap (λ l. l.items) (sym responses);
      are_local =
          elsewhere number change waiting (LocalJobs inst) (λ is. absurd (omega (arith, is))) ∙ are.are_local ∙ ap (λ l. l.items) (sym local);
    })

pub responses_change : ResponsesChange
responses_change waiting bodies after inst it then_it change show changes responses jobs local =
    let number = ring_number (Responses inst) in
    let are = show.kept inst it changes.here in
    changes_one waiting number change bodies after inst it then_it show changes (λ is. absurd (omega (arith, is)))
    (λ other apart. (
      λ is. absurd (omega (arith, is)),
      λ is. apart (omega (arith, is)),
      λ is. absurd (omega (arith, is)),
    ))
    (record {
      are_jobs =
          elsewhere number change waiting (Jobs inst) (λ is. absurd (omega (arith, is))) ∙ are.are_jobs ∙ ap (λ l. l.items) (sym jobs);
      are_responses = there number change waiting (Responses inst) refl ∙ ap change are.are_responses ∙ sym responses;
      are_local =
          elsewhere number change waiting (LocalJobs inst) (λ is. absurd (omega (arith, is))) ∙ are.are_local ∙ ap (λ l. l.items) (sym local);
    })

pub local_change : LocalJobsChange
local_change waiting bodies after inst it then_it change show changes local jobs responses =
    let number = ring_number (LocalJobs inst) in
    let are = show.kept inst it changes.here in
    changes_one waiting number change bodies after inst it then_it show changes (λ is. absurd (omega (arith, is)))
    (λ other apart. (
      λ is. absurd (omega (arith, is)),
      λ is. absurd (omega (arith, is)),
      λ is. apart (omega (arith, is)),
    ))
    (record {
      are_jobs =
          elsewhere number change waiting (Jobs inst) (λ is. absurd (omega (arith, is))) ∙ are.are_jobs ∙ ap (λ l. l.items) (sym jobs);
      are_responses =
          elsewhere number change waiting (Responses inst) (λ is. absurd (omega (arith, is))) ∙ are.are_responses ∙ ap (λ l. l.items) (sym responses);
      are_local = there number change waiting (LocalJobs inst) refl ∙ ap change are.are_local ∙ sym local;
    })

-- ---- the others

pub replies_change : RepliesChange
replies_change waiting bodies after change show each replies = record {
  kept = λ inst it got.
      stay waiting 1 change inst it (λ is. absurd (omega (arith, is))) (λ is. absurd (omega (arith, is))) (λ is. absurd (omega (arith, is)))
      (show.kept inst it (ap (λ vec. slice_get vec.items inst) (sym each) ∙ got));
  are_replies = there 1 change waiting AudioToControl refl ∙ ap change show.are_replies ∙ sym replies;
}

pub others_stay : OthersStay
others_stay waiting bodies number change show (inl none) = record {
  kept = λ inst it got.
      stay waiting number change inst it (λ is. absurd (omega (arith, none, is))) (λ is. absurd (omega (arith, none, is))) (λ is. absurd (omega (arith, none, is)))
      (show.kept inst it got);
  are_replies = elsewhere number change waiting AudioToControl (λ is. absurd (omega (arith, none, is))) ∙ show.are_replies;
}
others_stay waiting bodies number change show (inr between) = record {
  kept = λ inst it got.
      stay waiting number change inst it (λ is. absurd (omega (arith, between.1, is))) (λ is. absurd (omega (arith, between.1, is)))
      (λ is. absurd (omega (arith, between.1, is))) (show.kept inst it got);
  are_replies = elsewhere number change waiting AudioToControl (λ is. absurd (omega (arith, between.0, is))) ∙ show.are_replies;
}
