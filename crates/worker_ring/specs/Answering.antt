-- Attempts that are answered by recorded answers.
use Rattle.std.specs.Prelude.{◌≡◌, ℕ, zero, suc, pred, nat_lt, if◌then◌else◌, Bool, ◌||◌, List, [], ◌∷◌, ◌++◌, length, Some, None, refl}
use Rattle.std.proofs.Common.{subst, ◌∙◌}
use Rattle.std.specs.Borrow.{GName}
use Rattle.interaction.specs.Attempts.{Attempt}
use Rattle.step_law.specs.declared.entry.Entry.{Entry}
use Rattle.step_law.specs.declared.entry.Kind.{Kind}
use Rattle.step_law.specs.declared.entry.Kind.TheVariants.{Send, Full, Long}
use Rattle.step_record.specs.Log.{Logged, Writes}
use Rattle.worker_ring.specs.declared.keep.Attempt.{Attempt as Kept}
use Rattle.worker_ring.specs.Attempting.{on_ring, InSteps, InSteps-append}

-- what is kept of an attempt: a body that no message carries is left out
abbrev pub kept : Attempt → Kept
kept attempt = record { body = if nat_lt 256 (length attempt.body) then None else Some attempt.body; answer = attempt.answer }

-- the first 16 attempts are kept
abbrev pub with_kept : List Kept → Attempt → List Kept
with_kept made attempt = if nat_lt (length made) 16 then made ++ kept attempt ∷ [] else made

-- the kind of the entry by a recorded answer: LV2_WORKER_SUCCESS was sent, and all else had no room
abbrev pub kind_by : ℕ → List ℕ → Kind
kind_by zero body = Send
kind_by (suc answer) body = if nat_lt 256 (length body) then Long else Full

-- whose attempts these are, and on which ring
pub record Origin : Type 0 where
  pub actor : ℕ
  pub ring : ℕ

-- the answers that are left, the attempts that are kept, the tickets, the log, how many attempts may still have an entry, and whether one of
-- those had no answer left
pub record Answering (S : Type 0) : Type 0 where
  pub answers : List ℕ
  pub made : List Kept
  pub tickets : S
  pub log : Logged
  pub room : ℕ
  pub surplus : Bool

-- an attempt that has a recorded answer is marked
pub record Answered {S R : Type 0} (left : S → ℕ) (drawn : S → List ℕ) (rest : S → R) (at : Origin) (answer : ℕ) (answers : List ℕ) (old : Answering S) (attempt : Attempt) (new : Answering S) : Type 0 where
  pub ticket : ℕ
  pub writes : Writes left drawn rest old.tickets old.log (on_ring at.actor at.ring (kind_by answer attempt.body)) ticket new.tickets new.log
  pub answer_is : attempt.answer ≡ answer
  pub answers_are : new.answers ≡ answers
  pub made_are : new.made ≡ with_kept old.made attempt
  pub room_is : new.room ≡ pred old.room
  pub same : new.surplus ≡ old.surplus

-- an attempt after all recorded answers is answered LV2_WORKER_ERR_UNKNOWN, and is noted where it might have had an entry
abbrev pub unanswered : {S : Type 0} → Answering S → Attempt → Answering S
unanswered old attempt = record {
  answers = old.answers;
  made = with_kept old.made attempt;
  tickets = old.tickets;
  log = old.log;
  room = pred old.room;
  surplus = old.surplus || nat_lt 0 old.room;
}

-- one attempt, by the answers that are left
abbrev pub AnswerStep : {S R : Type 0} → (S → ℕ) → (S → List ℕ) → (S → R) → Origin → List ℕ → Answering S → Attempt → Answering S → Type 0
AnswerStep left drawn rest at [] old attempt new = (attempt.answer ≡ 1) × (new ≡ unanswered old attempt)
AnswerStep left drawn rest at (answer ∷ answers) old attempt new = Answered left drawn rest at answer answers old attempt new

abbrev pub AnswerSteps : {S R : Type 0} → (S → ℕ) → (S → List ℕ) → (S → R) → Origin → Answering S → List Attempt → Answering S → Type 0
AnswerSteps left drawn rest at old attempts new = InSteps (λ before attempt after. AnswerStep left drawn rest at before.answers before attempt after) old attempts new

-- the references that a scheduler was lent
pub record Borrowed : Type 0 where
  pub tickets : GName
  pub log : GName

-- a scheduler made these attempts; whose they are, and what it was lent, stay
pub record AnswerWent {S R : Type 0} (left : S → ℕ) (drawn : S → List ℕ) (rest : S → R) (at : Origin) (lent : Borrowed) (old : Answering S) (attempts : List Attempt) (new_at : Origin) (new_lent : Borrowed) (new : Answering S) : Type 0 where
  pub steps : AnswerSteps left drawn rest at old attempts new
  pub origin : new_at ≡ at
  pub same : new_lent ≡ lent

-- a scheduler marks an entry of its actor, and all else stays
pub record AnswerMarks {S R : Type 0} (left : S → ℕ) (drawn : S → List ℕ) (rest : S → R) (at : Origin) (lent : Borrowed) (old : Answering S) (entry : Entry) (ticket : ℕ) (new_at : Origin) (new_lent : Borrowed) (new : Answering S) : Type 0 where
  pub writes : Writes left drawn rest old.tickets old.log entry ticket new.tickets new.log
  pub answers : new.answers ≡ old.answers
  pub made : new.made ≡ old.made
  pub room : new.room ≡ old.room
  pub surplus : new.surplus ≡ old.surplus
  pub origin : new_at ≡ at
  pub same : new_lent ≡ lent

-- no attempts, and attempts in a row
pub AnswerWent-none : {S R : Type 0} (left : S → ℕ) (drawn : S → List ℕ) (rest : S → R) (at : Origin) (lent : Borrowed) (old : Answering S)
    → AnswerWent left drawn rest at lent old [] at lent old
AnswerWent-none left drawn rest at lent old = record { steps = refl; origin = refl; same = refl }

pub AnswerWent-more : {S R : Type 0} (left : S → ℕ) (drawn : S → List ℕ) (rest : S → R) (at mid_at new_at : Origin) (lent mid_lent new_lent : Borrowed)
    (old mid new : Answering S) (first second : List Attempt) → AnswerWent left drawn rest at lent old first mid_at mid_lent mid
    → AnswerWent left drawn rest mid_at mid_lent mid second new_at new_lent new → AnswerWent left drawn rest at lent old (first ++ second) new_at new_lent new
AnswerWent-more left drawn rest at mid_at new_at lent mid_lent new_lent old mid new first second begun goes = record {
  steps =
      InSteps-append (λ before attempt after. AnswerStep left drawn rest at before.answers before attempt after) old mid new first second begun.steps
      (subst (λ where_from. AnswerSteps left drawn rest where_from mid second new) begun.origin goes.steps);
  origin = goes.origin ∙ begun.origin;
  same = goes.same ∙ begun.same;
}
