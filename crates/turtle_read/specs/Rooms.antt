-- Room for blank numbers: a store takes those below 2 ^ 31.
use Rattle.std.specs.Prelude.{◌≡◌, ℕ, ◌+◌, ◌<◌, ◌≤◌, ◌^◌, List, Some}
use Rattle.turtle_document.specs.Meaning.{State}

-- so many numbers more can be given, and those of labels are ones that a store takes
pub record HasRoom (more : ℕ) (st : State) : Type 0 where
  pub blanks : st.blanks + more ≤ 2 ^ 31
  pub labels : (name : List ℕ) (n : ℕ) → st.labels name ≡ Some n → n < 2 ^ 31
