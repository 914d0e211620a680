-- The sums of a mix, before they are clamped.
use Rattle.std.specs.Prelude.{ℕ, ℤ, pos, neg_ℤ, ◌≤ℤ◌, List, map, slice_index_or}
use Rattle.lv_base.specs.declared.number.Sample.{Sample}
use Rattle.lv_base.specs.Number.{sum_of}
use Rattle.replay_core.specs.Signals.{sample_at}

-- the sum of a frame
abbrev pub number_at : List ℤ → ℕ → ℤ
number_at sums frame = slice_index_or sums frame (pos 0)

-- the exact sum of signals in a frame
abbrev pub sum_at : List (List Sample) → ℕ → ℤ
sum_at parts frame = sum_of (map (λ part. sample_at part frame) parts)

-- a number between -far and far
abbrev pub IsNear : ℕ → ℤ → Type 0
IsNear far n = (neg_ℤ (pos far) ≤ℤ n) × (n ≤ℤ pos far)
