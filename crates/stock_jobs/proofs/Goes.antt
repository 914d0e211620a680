-- A call of which some attempts were made goes on as another.
use Rattle.std.proofs.Common.{◌≡◌, ℕ, List, [], ◌∷◌, ◌++◌, refl, sym, subst}
use Rattle.interaction.specs.Interaction.{Interaction, done, ask}
use Rattle.interaction.specs.Attempts.{Attempt, Plays}

abbrev pub GoesOn : {R : Type 0} → Interaction R → List Attempt → Interaction R → Type 0
GoesOn call [] rest = call ≡ rest
GoesOn (done result) (attempt ∷ attempts) rest = ⊥
GoesOn (ask body next) (attempt ∷ attempts) rest = (attempt.body ≡ body) × GoesOn (next attempt.answer) attempts rest

-- one attempt more
pub goes_on_more : {R : Type 0} (call : Interaction R) (attempts : List Attempt) (body : List ℕ) (next : ℕ → Interaction R) (answer : ℕ)
    → GoesOn call attempts (ask body next) → GoesOn call (attempts ++ record { body = body; answer = answer } ∷ []) (next answer)
goes_on_more call [] body next answer goes =
    subst (λ c. GoesOn c (record { body = body; answer = answer } ∷ []) (next answer)) (sym goes) (refl, refl)
goes_on_more (done result) (attempt ∷ attempts) body next answer goes = absurd goes
goes_on_more (ask said then) (attempt ∷ attempts) body next answer goes =
    (goes.0, goes_on_more (then attempt.answer) attempts body next answer goes.1)

-- a call that goes on as one that is over has played
pub goes_on_plays : {R : Type 0} (call : Interaction R) (attempts : List Attempt) (result : R) → GoesOn call attempts (done result)
    → Plays call attempts result
goes_on_plays call [] result goes = subst (λ c. Plays c [] result) (sym goes) refl
goes_on_plays (done end) (attempt ∷ attempts) result goes = absurd goes
goes_on_plays (ask body next) (attempt ∷ attempts) result goes = (goes.0, goes_on_plays (next attempt.answer) attempts result goes.1)
