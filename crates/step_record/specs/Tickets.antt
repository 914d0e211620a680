-- Drawing tickets.
use Rattle.std.specs.Prelude.{◌≡◌, ℕ, ◌+◌, List, ◌++◌, length}

-- These tickets were drawn, in order: so many fewer are left, they follow those drawn before, and all else stays.
pub record Draws {S R : Type 0} (left : S → ℕ) (drawn : S → List ℕ) (rest : S → R) (old : S) (tickets : List ℕ) (new : S) : Type 0 where
  pub fewer : left new + length tickets ≡ left old
  pub after : drawn new ≡ drawn old ++ tickets
  pub others : rest new ≡ rest old
