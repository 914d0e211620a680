-- The cells of a ring.
use Rattle.std.specs.Prelude.{◌≡◌, ℕ, ◌+◌, ◌*◌, ◌%◌, ◌<◌, ◌≤◌, ◌==◌, if◌then◌else◌, List, [], ◌∷◌, Option, Some, None}
use mathlib.Core.Option as maybe
use mathlib.Core.Option.{some}
use lib.ListN.{get_elem?}
use Rattle.cable_trace.specs.declared.trace.Pending.{Pending}
use Rattle.cable_trace.specs.declared.trace.Pending.TheVariants.{Putting, Fetching}

-- the slot of a ring's cell for the message with this number
abbrev pub slot : ℕ → ℕ → ℕ → ℕ
slot cells ring number = ring * cells + number % cells

-- a sender that has the cell at the tail of a ring saw so many messages taken
abbrev pub putting : {M : Type 0} → ℕ → Pending M → List ℕ
putting ring (Putting on ticket seen) = if on == ring then seen ∷ [] else []
putting ring pending = []

-- a taker that has the cell at the head of a ring moves this message out of it
abbrev pub fetching : {M : Type 0} → ℕ → Pending M → List M
fetching ring (Fetching on message) = if on == ring then message ∷ [] else []
fetching ring pending = []

-- Of a ring: from the head to the tail the cells hold what was sent; from there on, as many as there are cells, they are empty. The cell at the
-- tail may be the sender's, which saw room for it, and the cell at the head the taker's.
pub record AreCells {M : Type 0} (cells ring head tail : ℕ) (homes : List (maybe.Option (Option M))) (sent : List M) (puts : List ℕ) (shown fetches : List M) : Type 0 where
  pub full : (number : ℕ) (message : M) → head ≤ number → (number ≡ head → fetches ≡ []) → get_elem? sent number ≡ some message
      → get_elem? homes (slot cells ring number) ≡ some (some (Some message))
  pub empty : (number : ℕ) → tail ≤ number → number < head + cells → (number ≡ tail → puts ≡ []) → get_elem? homes (slot cells ring number) ≡ some (some None)
  pub sees : (seen : ℕ) → puts ≡ seen ∷ [] → (seen ≤ head) × (tail < seen + cells)
  pub moves : (message : M) → fetches ≡ message ∷ [] → get_elem? shown head ≡ some message
