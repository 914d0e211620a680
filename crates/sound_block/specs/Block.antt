-- Signals of a block: lists of samples, one for each frame, and exact sums of them.
use Rattle.std.specs.Prelude.{ℕ, ℤ, pos, neg_ℤ, ◌+ℤ◌, ◌≤ℤ◌, ◌^◌, ◌*◌, ◌-◌, List, [], ◌∷◌, slice_index_or}
use Rattle.std.specs.Int.{w16, cast_unsigned, to_le_bytes}
use Rattle.lv_base.specs.declared.number.Sample.{Sample}
use Rattle.lv_base.specs.Number.{pcm_of}

-- sums, frame by frame, with a signal added
abbrev pub added : List ℤ → List Sample → List ℤ
added [] signal = []
added (sum ∷ sums) [] = sum ∷ sums
added (sum ∷ sums) (sample ∷ signal) = (sum +ℤ sample.0) ∷ added sums signal

-- sums after these signals were added, one after the other
abbrev pub sums_after : List ℤ → List (List Sample) → List ℤ
sums_after sums [] = sums
sums_after sums (signal ∷ signals) = sums_after (added sums signal) signals

-- a number that a sum of so many samples can be: a sample is from -2^31 to 2^31 - 1
abbrev pub IsSum : ℕ → ℤ → Type 0
IsSum count n = (neg_ℤ (pos (count * 2 ^ 31)) ≤ℤ n) × (n ≤ℤ pos (count * (2 ^ 31 - 1)))

-- how many signals may have been added before one more is
abbrev pub most_signals : ℕ
most_signals = 65535

-- what a signal has in a frame: silence after its end
abbrev pub sample_at : List Sample → ℕ → Sample
sample_at signal frame = slice_index_or signal frame (record { 0 = pos 0 })

-- a sample in two bytes of PCM, the low one first
abbrev pub sample_bytes : Sample → List ℕ
sample_bytes sample = to_le_bytes w16 (cast_unsigned w16 (pcm_of sample))
