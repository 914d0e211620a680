-- The law of answers and its plays, by recursion over the interaction.
use Rattle.std.proofs.Common.{◌≡◌, ℕ, zero, suc, List, [], ◌∷◌, refl, sym, ap, ◌∙◌, arith}
use Rattle.std.specs.Prelude.{slice_get}
use Rattle.interaction.specs.Interaction.{done, ask}
use Rattle.interaction.specs.Attempts.{Attempt, answers_in}
use Rattle.interaction.specs.Answers.{answer_at, later, result_of, attempts_of, bodies_of, AgreeBelow}
use Rattle.interaction.specs.Laws.{AttemptsGoByAnswersBefore, ResultGoesByAnswersGiven, AnswersHaveAPlay, PlaysGoByTheirAnswers}

later_at : (answers : List ℕ) (place : ℕ) → answer_at (later answers) place ≡ answer_at answers (suc place)
later_at [] place = refl
later_at (answer ∷ answers) place = refl

-- lists that agree agree after their first answers
later_agree : (count : ℕ) (answers others : List ℕ) → AgreeBelow (suc count) answers others → AgreeBelow count (later answers) (later others)
later_agree count answers others alike = λ place below.
    rw (later_at answers place) (rw (later_at others place) (alike (suc place) (omega arith)))

pub attempts_before : {R : Type 0} → AttemptsGoByAnswersBefore R
attempts_before (done result) place answers others alike = refl
attempts_before (ask body next) zero answers others alike = refl
attempts_before (ask body next) (suc place) answers others alike =
    attempts_before (next (answer_at answers 0)) place (later answers) (later others) (later_agree place answers others alike)
    ∙ ap (λ answer. slice_get (bodies_of (next answer) (later others)) place) (alike 0 (omega arith))

pub result_given : {R : Type 0} → ResultGoesByAnswersGiven R
result_given (done result) answers others alike = refl
result_given (ask body next) answers others alike =
    result_given (next (answer_at answers 0)) (later answers) (later others) (later_agree _ answers others alike)
    ∙ ap (λ answer. result_of (next answer) (later others)) (alike 0 (omega arith))

pub answers_have_a_play : {R : Type 0} → AnswersHaveAPlay R
answers_have_a_play (done result) answers = refl
answers_have_a_play (ask body next) answers = (refl, answers_have_a_play (next (answer_at answers 0)) (later answers))

pub plays_by_answers : {R : Type 0} → PlaysGoByTheirAnswers R
plays_by_answers (done end) [] result plays = (refl, plays)
plays_by_answers (done end) (attempt ∷ attempts) result plays = absurd plays
plays_by_answers (ask body next) [] result plays = absurd plays
plays_by_answers (ask body next) (attempt ∷ attempts) result plays =
    let rest = plays_by_answers (next attempt.answer) attempts result plays.1 in
    let with_body : List ℕ → List Attempt =
    λ said. record { body = said; answer = attempt.answer } ∷ attempts_of (next attempt.answer) (answers_in attempts) in
    (ap with_body (sym plays.0) ∙ ap (λ (others : List Attempt). attempt ∷ others) rest.0, rest.1)
