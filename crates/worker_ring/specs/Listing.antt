-- Attempts on a list of bodies that wait, for one thread.
use Rattle.std.specs.Prelude.{◌≡◌, ℕ, zero, suc, List, [], ◌++◌, refl}
use Rattle.std.proofs.Common.{subst, ◌∙◌}
use Rattle.std.specs.Borrow.{GName}
use Rattle.interaction.specs.Attempts.{Attempt}
use Rattle.step_law.specs.declared.entry.Entry.{Entry}
use Rattle.step_record.specs.Log.{Logged, Writes}
use Rattle.worker_ring.specs.Attempting.{on_ring, kind_of, status_of, waiting_after, InSteps, InSteps-append}

-- where attempts go: the actor that makes them, the number of the ring, and its cells
pub record Target : Type 0 where
  pub actor : ℕ
  pub ring : ℕ
  pub cells : ℕ

-- the bodies that wait, the tickets, the log, and how many attempts may still have an entry
pub record Listed (S : Type 0) : Type 0 where
  pub waiting : List (List ℕ)
  pub tickets : S
  pub log : Logged
  pub room : ℕ

-- an attempt that has an entry: it is answered by the ring, and marked
pub record Marked {S R : Type 0} (left : S → ℕ) (drawn : S → List ℕ) (rest : S → R) (at : Target) (old : Listed S) (attempt : Attempt) (new : Listed S) : Type 0 where
  pub ticket : ℕ
  pub writes : Writes left drawn rest old.tickets old.log (on_ring at.actor at.ring (kind_of at.cells old.waiting attempt.body)) ticket new.tickets new.log
  pub answer : attempt.answer ≡ status_of at.cells old.waiting attempt.body
  pub waiting : new.waiting ≡ waiting_after at.cells old.waiting attempt.body

-- One attempt. From the 17th of a call on, or without a worker, it is answered LV2_WORKER_ERR_UNKNOWN, and nothing changes.
abbrev pub ListStep : {S R : Type 0} → (S → ℕ) → (S → List ℕ) → (S → R) → Target → ℕ → Listed S → Attempt → Listed S → Type 0
ListStep left drawn rest at zero old attempt new = (attempt.answer ≡ 1) × (new ≡ old)
ListStep left drawn rest at (suc room) old attempt new = Marked left drawn rest at old attempt new × (new.room ≡ room)

abbrev pub ListSteps : {S R : Type 0} → (S → ℕ) → (S → List ℕ) → (S → R) → Target → Listed S → List Attempt → Listed S → Type 0
ListSteps left drawn rest at old attempts new = InSteps (λ before attempt after. ListStep left drawn rest at before.room before attempt after) old attempts new

-- the references that a scheduler was lent
pub record Lent : Type 0 where
  pub list : GName
  pub tickets : GName
  pub log : GName

-- a scheduler made these attempts; where they go, and what it was lent, stay
pub record ListWent {S R : Type 0} (left : S → ℕ) (drawn : S → List ℕ) (rest : S → R) (at : Target) (lent : Lent) (old : Listed S) (attempts : List Attempt) (new_at : Target) (new_lent : Lent) (new : Listed S) : Type 0 where
  pub steps : ListSteps left drawn rest at old attempts new
  pub target : new_at ≡ at
  pub same : new_lent ≡ lent

-- a scheduler marks an entry of its actor, and all else stays
pub record ListMarks {S R : Type 0} (left : S → ℕ) (drawn : S → List ℕ) (rest : S → R) (at : Target) (lent : Lent) (old : Listed S) (entry : Entry) (ticket : ℕ) (new_at : Target) (new_lent : Lent) (new : Listed S) : Type 0 where
  pub writes : Writes left drawn rest old.tickets old.log entry ticket new.tickets new.log
  pub waiting : new.waiting ≡ old.waiting
  pub room : new.room ≡ old.room
  pub target : new_at ≡ at
  pub same : new_lent ≡ lent

-- no attempts, and attempts in a row
pub ListWent-none : {S R : Type 0} (left : S → ℕ) (drawn : S → List ℕ) (rest : S → R) (at : Target) (lent : Lent) (old : Listed S)
    → ListWent left drawn rest at lent old [] at lent old
ListWent-none left drawn rest at lent old = record { steps = refl; target = refl; same = refl }

pub ListWent-more : {S R : Type 0} (left : S → ℕ) (drawn : S → List ℕ) (rest : S → R) (at mid_at new_at : Target) (lent mid_lent new_lent : Lent)
    (old mid new : Listed S) (first second : List Attempt) → ListWent left drawn rest at lent old first mid_at mid_lent mid
    → ListWent left drawn rest mid_at mid_lent mid second new_at new_lent new → ListWent left drawn rest at lent old (first ++ second) new_at new_lent new
ListWent-more left drawn rest at mid_at new_at lent mid_lent new_lent old mid new first second begun goes = record {
  steps =
      InSteps-append (λ before attempt after. ListStep left drawn rest at before.room before attempt after) old mid new first second begun.steps
      (subst (λ where_to. ListSteps left drawn rest where_to mid second new) begun.target goes.steps);
  target = goes.target ∙ begun.target;
  same = goes.same ∙ begun.same;
}
