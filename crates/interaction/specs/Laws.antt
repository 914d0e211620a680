-- The law of answers, and what it says of plays, for calls with results of a type.
use Rattle.std.specs.Prelude.{◌≡◌, ℕ, List, length, slice_get}
use Rattle.interaction.specs.Interaction.{Interaction}
use Rattle.interaction.specs.Attempts.{Attempt, answers_in, Plays}
use Rattle.interaction.specs.Answers.{result_of, attempts_of, bodies_of, AgreeBelow}

-- whether there is an attempt at a place, and its body, depend on the answers before it alone
abbrev pub AttemptsGoByAnswersBefore : Type 0 → Type 0
AttemptsGoByAnswersBefore R = (call : Interaction R) (place : ℕ) (answers others : List ℕ)
    → AgreeBelow place answers others → slice_get (bodies_of call answers) place ≡ slice_get (bodies_of call others) place

-- the result depends on the answers to attempts that are made alone
abbrev pub ResultGoesByAnswersGiven : Type 0 → Type 0
ResultGoesByAnswersGiven R = (call : Interaction R) (answers others : List ℕ)
    → AgreeBelow (length (bodies_of call answers)) answers others → result_of call answers ≡ result_of call others

-- a call plays what it attempts under a list of answers
abbrev pub AnswersHaveAPlay : Type 0 → Type 0
AnswersHaveAPlay R = (call : Interaction R) (answers : List ℕ) → Plays call (attempts_of call answers) (result_of call answers)

-- and it plays nothing else: a play is the one under its own answers
abbrev pub PlaysGoByTheirAnswers : Type 0 → Type 0
PlaysGoByTheirAnswers R = (call : Interaction R) (attempts : List Attempt) (result : R) → Plays call attempts result
    → (attempts_of call (answers_in attempts) ≡ attempts) × (result_of call (answers_in attempts) ≡ result)
