-- The cycle that is told where there is no plan.
use Rattle.std.specs.Prelude.{◌≡◌, ◌⊎◌, ℕ, ◌<◌, ◌≤◌, true, List, [], ◌∷◌, length, slice_index}
use Rattle.session_script.specs.declared.session.CableLine.{CableLine}
use Rattle.graph_order.specs.Wiring.{leads}

-- instances of which each feeds the next, and the last the first
abbrev pub IsCycle : List CableLine → List ℕ → Type 0
IsCycle cables [] = ⊥
IsCycle cables (first ∷ rest) = leads cables first rest first ≡ true

-- some instances feed each other in a circle
abbrev pub HasCycle : List CableLine → Type 0
HasCycle cables = (cycle : List ℕ) × IsCycle cables cycle

-- at the first place where they differ, a list has the lesser number
abbrev pub IsAtMost : List ℕ → List ℕ → Type 0
IsAtMost [] ys = Unit {0}
IsAtMost (x ∷ xs) [] = ⊥
IsAtMost (x ∷ xs) (y ∷ ys) = (x < y) ⊎ ((x ≡ y) × IsAtMost xs ys)

-- it begins with the least instance that is on a cycle; of the cycles from there it is a shortest, and of these the least list
pub record IsFirstCycle (cables : List CableLine) (list : List ℕ) : Type 0 where
  pub cycle : IsCycle cables list
  pub least : (other : List ℕ) → IsCycle cables other → slice_index list 0 ≤ slice_index other 0
  pub shortest : (other : List ℕ) → IsCycle cables other → slice_index other 0 ≡ slice_index list 0 → length list ≤ length other
  pub lowest : (other : List ℕ) → IsCycle cables other → slice_index other 0 ≡ slice_index list 0 → length other ≡ length list → IsAtMost list other
