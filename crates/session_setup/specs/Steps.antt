-- Work that goes step by step, up to the first fault. What a step may end in is a relation on results: a value, or a fault.
use Rattle.std.specs.Prelude.{◌≡◌, ◌⊎◌, ℕ, ◌+◌, List, [], ◌∷◌, Result, Ok, Err}

-- one step, and then one that goes on from its value; a fault of either ends both
abbrev pub Then : {A B E : Type 0} → (Result A E → Type 0) → (A → Result B E → Type 0) → Result B E → Type 0
Then {A = A} First Second (Ok value) = (between : A) × First (Ok between) × Second between (Ok value)
Then {A = A} First Second (Err fault) = First (Err fault) ⊎ ((between : A) × First (Ok between) × Second between (Err fault))

-- a step for each item, in order, the first item numbered n; it ends in the list of their values, or in the first fault
abbrev pub Each : {X A E : Type 0} → (ℕ → X → Result A E → Type 0) → ℕ → List X → Result (List A) E → Type 0
Each Step n [] end = end ≡ Ok []
Each Step n (item ∷ items) end =
    Then (Step n item) (λ value. Then (λ rest. Each Step (n + 1) items rest) (λ values all. all ≡ Ok (value ∷ values))) end
