-- The meaning of a call that makes attempts: an interaction tree (Xia and others, Interaction Trees, POPL 2020).
use Rattle.std.specs.Prelude.{ℕ, List}

-- a call that is over with its result, or that attempts a body and goes on by the answer
pub data Interaction (R : Type 0) : Type 0 where
  done : R → Interaction R
  ask : List ℕ → (ℕ → Interaction R) → Interaction R
