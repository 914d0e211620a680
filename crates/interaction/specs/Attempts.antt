-- The attempts of a call.
use Rattle.std.specs.Prelude.{◌≡◌, ℕ, List, [], ◌∷◌, map}
use Rattle.interaction.specs.Interaction.{Interaction, done, ask}

-- a body that was attempted, and its answer
pub record Attempt : Type 0 where
  pub body : List ℕ
  pub answer : ℕ

-- the answers of attempts, in order
abbrev pub answers_in : List Attempt → List ℕ
answers_in attempts = map (λ attempt. attempt.answer) attempts

-- a call makes exactly these attempts, in order, and ends with this result
abbrev pub Plays : {R : Type 0} → Interaction R → List Attempt → R → Type 0
Plays (done end) [] result = end ≡ result
Plays (done end) (attempt ∷ attempts) result = ⊥
Plays (ask body next) [] result = ⊥
Plays (ask body next) (attempt ∷ attempts) result = (attempt.body ≡ body) × Plays (next attempt.answer) attempts result
