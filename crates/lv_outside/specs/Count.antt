-- Counts of what the outside does: they never fall, and stand still at the greatest number of 64 bits.
use Rattle.std.specs.Prelude.{ℕ, ◌+◌, ◌-◌, ◌^◌, ◌≤◌, min}

-- the count after one more
abbrev pub next_count : ℕ → ℕ
next_count count = min (count + 1) (2 ^ 64 - 1)

-- the count rose, or stands at the greatest number
abbrev pub Rose : ℕ → ℕ → Type 0
Rose before now = next_count before ≤ now

-- the count didn't fall, and rose where this was answered
pub record Counted (before now : ℕ) (Answered : Type 0) : Type 0 where
  pub later : before ≤ now
  pub rose : Answered → Rose before now
