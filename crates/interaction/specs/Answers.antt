-- A call as a function of a list of answers, which goes on with 1 without end: in LV2's worker extension 1 is an unknown error.
use Rattle.std.specs.Prelude.{◌≡◌, ℕ, zero, suc, ◌<◌, List, [], ◌∷◌, map}
use Rattle.interaction.specs.Interaction.{Interaction, done, ask}
use Rattle.interaction.specs.Attempts.{Attempt}

-- the answer at a place
abbrev pub answer_at : List ℕ → ℕ → ℕ
answer_at [] place = 1
answer_at (answer ∷ answers) zero = answer
answer_at (answer ∷ answers) (suc place) = answer_at answers place

-- the answers after the first
abbrev pub later : List ℕ → List ℕ
later [] = []
later (answer ∷ answers) = answers

-- what a call ends with
abbrev pub result_of : {R : Type 0} → Interaction R → List ℕ → R
result_of (done result) answers = result
result_of (ask body next) answers = result_of (next (answer_at answers 0)) (later answers)

-- what it attempts, in order
abbrev pub attempts_of : {R : Type 0} → Interaction R → List ℕ → List Attempt
attempts_of (done result) answers = []
attempts_of (ask body next) answers =
    let answer = answer_at answers 0 in record { body = body; answer = answer } ∷ attempts_of (next answer) (later answers)

-- the bodies of its attempts
abbrev pub bodies_of : {R : Type 0} → Interaction R → List ℕ → List (List ℕ)
bodies_of call answers = map (λ attempt. attempt.body) (attempts_of call answers)

-- two lists of answers agree below a place
abbrev pub AgreeBelow : ℕ → List ℕ → List ℕ → Type 0
AgreeBelow count answers others = (place : ℕ) → place < count → answer_at answers place ≡ answer_at others place
