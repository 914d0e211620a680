-- How a cycle is found: which instances reach one over so many cables, and the least list that leads back to it.
use Rattle.std.specs.Prelude.{◌≡◌, ℕ, zero, suc, ◌+◌, ◌<◌, ◌≤◌, ◌==◌, Bool, true, false, List, [], ◌∷◌, length, slice_index_or}
use Rattle.session_script.specs.declared.session.CableLine.{CableLine}
use Rattle.graph_order.specs.Wiring.{feeds, feeds_some, leads}
use Rattle.graph_order.specs.Cycles.{IsAtMost}

-- from an instance over n cables to another
abbrev pub reaches : List CableLine → ℕ → ℕ → ℕ → Bool
reaches cables to zero from = from == to
reaches cables to (suc n) from = feeds_some cables (reaches cables to n) from

-- an instance is marked
abbrev pub is_marked : List Bool → ℕ → Bool
is_marked row inst = slice_index_or row inst false

-- a row marks these of `count` instances
pub record IsRowOf (marked : ℕ → Bool) (count : ℕ) (row : List Bool) : Type 0 where
  pub all : length row ≡ count
  pub same : (inst : ℕ) → inst < count → is_marked row inst ≡ marked inst

-- row n marks the instances that reach one over n cables
abbrev pub AreRows : List CableLine → ℕ → ℕ → List (List Bool) → Type 0
AreRows cables to count rows = (n : ℕ) → n < length rows → IsRowOf (reaches cables to n) count (slice_index_or rows n [])

-- no way back to an instance has 1 to n - 1 cables
abbrev pub IsApartBelow : List CableLine → ℕ → ℕ → Type 0
IsApartBelow cables inst n = (k : ℕ) → 0 < k → k < n → reaches cables inst k inst ≡ false

-- the rows below the shortest way back to an instance
pub record IsSearched (cables : List CableLine) (inst count : ℕ) (found : List (List Bool)) : Type 0 where
  pub some : 0 < length found
  pub rows : AreRows cables inst count found
  pub apart : IsApartBelow cables inst (length found)
  pub back : reaches cables inst (length found) inst ≡ true

-- no cycle goes through an instance
abbrev pub IsOnNone : List CableLine → ℕ → Type 0
IsOnNone cables inst = (rest : List ℕ) → leads cables inst rest inst ≡ true → ⊥

-- the least list of its length that leads on from an instance to another
pub record IsLeastFrom (cables : List CableLine) (to from : ℕ) (rest : List ℕ) : Type 0 where
  pub way : leads cables from rest to ≡ true
  pub least : (other : List ℕ) → length other ≡ length rest → leads cables from other to ≡ true → IsAtMost rest other

-- a cycle of n instances from this one on, the least of its length
pub record IsLeastOf (cables : List CableLine) (inst n : ℕ) (cycle : List ℕ) : Type 0 where
  pub rest : List ℕ
  pub from : cycle ≡ inst ∷ rest
  pub long : length rest + 1 ≡ n
  pub least : IsLeastFrom cables inst inst rest

-- the least of the shortest cycles through an instance
pub record IsFirstThrough (cables : List CableLine) (inst : ℕ) (cycle : List ℕ) : Type 0 where
  pub least : IsLeastOf cables inst (length cycle) cycle
  pub shortest : (rest : List ℕ) → leads cables inst rest inst ≡ true → length cycle ≤ length rest + 1

-- the least instance to go on to: fed by one and marked
pub record IsStep (cables : List CableLine) (row : List Bool) (from inst : ℕ) : Type 0 where
  pub there : inst < length row
  pub fed : feeds cables from inst ≡ true
  pub marked : is_marked row inst ≡ true
  pub least : (other : ℕ) → other < inst → feeds cables from other ≡ true → is_marked row other ≡ true → ⊥
