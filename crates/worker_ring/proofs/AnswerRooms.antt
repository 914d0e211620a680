-- Attempts with recorded answers leave room for the mark of the call's end.
use Rattle.std.proofs.Common.{◌≡◌, ℕ, suc, pred, ◌+◌, ◌<◌, Bool, ◌||◌, nat_lt, List, [], ◌∷◌, length, sym, ◌∙◌, ap, subst, refl, arith}
use Rattle.interaction.specs.Attempts.{Attempt}
use Rattle.plug_api.specs.Calls.{CanCall}
use Rattle.step_record.specs.declared.tickets.Tickets.{Ghosts}
use Rattle.worker_ring.specs.declared.keep.Attempt.{Attempt as Kept}
use Rattle.worker_ring.specs.declared.answers.AnswerAttempts.{AnswerAttempts}
use Rattle.worker_ring.specs.Answering.{Origin, Answering, Answered, unanswered, with_kept, AnswerStep, AnswerSteps}
use Rattle.worker_ring.specs.AnswerGuard.{origin_of, answering_in, answer_can_mark, answer_marked, answer_went}
use Rattle.worker_ring.proofs.Rooms.{written}

module _ {S R : Type 0} (left : S → ℕ) (drawn : S → List ℕ) (rest : S → R) where
  -- there is a ticket and a place for one entry more than answers
  abbrev pub HasPlaces : Answering S → Type 0
  HasPlaces answering = (length answering.answers < left answering.tickets) × (length answering.answers < answering.log.spare)

  step_keeps : (at : Origin) (answers : List ℕ) (old new : Answering S) (attempt : Attempt) → old.answers ≡ answers
      → AnswerStep left drawn rest at answers old attempt new → HasPlaces old → HasPlaces new
  step_keeps at [] old new attempt e step has = subst HasPlaces (sym step.1) has
  step_keeps at (answer ∷ answers) old new attempt e step has =
      let count : length old.answers ≡ suc (length answers) = ap length e in
      let both =
      written left drawn rest old.tickets new.tickets old.log new.log _ _ (length answers) step.writes (omega (arith, count, has.0)) (omega (arith, count, has.1)) in
      let now : length new.answers ≡ length answers = ap length step.answers_are in
      (omega (arith, now, both.0), omega (arith, now, both.1))

  pub answers_keep : (at : Origin) (old new : Answering S) (attempts : List Attempt) → AnswerSteps left drawn rest at old attempts new → HasPlaces old → HasPlaces new
  answers_keep at old new [] steps has = subst HasPlaces (sym steps) has
  answers_keep at old new (attempt ∷ attempts) steps has =
      answers_keep at steps.0 new attempts steps.2 (step_keeps at old.answers old steps.0 attempt refl steps.1 has)

  -- a step by whether an answer is left
  pub unanswered_step : (at : Origin) (answers : List ℕ) (old new : Answering S) (attempt : Attempt) → answers ≡ [] → attempt.answer ≡ 1
      → new ≡ unanswered old attempt → AnswerStep left drawn rest at answers old attempt new
  unanswered_step at answers old new attempt e answer same =
      subst (λ (l : List ℕ). AnswerStep left drawn rest at l old attempt new) (sym e) (answer, same)

  pub answered_step : (at : Origin) (answers : List ℕ) (answer : ℕ) (others : List ℕ) (old new : Answering S) (attempt : Attempt) → answers ≡ answer ∷ others
      → Answered left drawn rest at answer others old attempt new → AnswerStep left drawn rest at answers old attempt new
  answered_step at answers answer others old new attempt e answered =
      subst (λ (l : List ℕ). AnswerStep left drawn rest at l old attempt new) (sym e) answered

-- a scheduler after an attempt that has no answer, by its parts
pub unanswered_is : {S : Type 0} (old : Answering S) (attempt : Attempt) (made : List Kept) (room : ℕ) (surplus : Bool) → made ≡ with_kept old.made attempt
    → room ≡ pred old.room → surplus ≡ (old.surplus || nat_lt 0 old.room)
    → record { answers = old.answers; made = made; tickets = old.tickets; log = old.log; room = room; surplus = surplus } ≡ unanswered old attempt
unanswered_is old attempt made room surplus one two three =
    ap (λ (m : List Kept). record { answers = old.answers; made = m; tickets = old.tickets; log = old.log; room = room; surplus = surplus }) one
    ∙ ap (λ n. record { answers = old.answers; made = with_kept old.made attempt; tickets = old.tickets; log = old.log; room = n; surplus = surplus }) two
    ∙ ap (λ b. record { answers = old.answers; made = with_kept old.made attempt; tickets = old.tickets; log = old.log; room = pred old.room; surplus = b }) three

-- a scheduler with room for two entries more than answers can mark a call
pub can_call : {T : Type 0} {t : Ghosts T} (sched : AnswerAttempts T t) → length sched.answers.now + 1 < t.left sched.tickets.now
    → length sched.answers.now + 1 < sched.log.now.spare
    → CanCall (λ (s : AnswerAttempts T t). s.actor) answer_can_mark answer_marked answer_went sched
can_call {T} {t} sched l s = record {
  now = (omega (arith, l), omega (arith, s));
  actor = λ entry ticket called tried attempts marks goes. ap (λ g. g.actor) goes.origin ∙ ap (λ g. g.actor) marks.origin;
  again =
      λ entry ticket called tried attempts marks goes.
      let both =
      written t.left t.drawn t.rest sched.tickets.now called.tickets.now sched.log.now called.log.now entry ticket (length sched.answers.now) marks.writes
      (omega (arith, l)) (omega (arith, s)) in
      let same : length called.answers.now ≡ length sched.answers.now = ap length marks.answers in
      answers_keep t.left t.drawn t.rest (origin_of called) (answering_in called) (answering_in tried) attempts goes.steps
      (omega (arith, same, both.0), omega (arith, same, both.1));
}
