-- Blocks of samples.
use Rattle.std.specs.Prelude.{◌≡◌, ℕ, ◌++◌, List, pos, length, take, drop, replicate}
use Rattle.lv_base.specs.declared.number.Sample.{Sample}

-- no sound
abbrev pub silent : Sample
silent = record { 0 = pos 0 }

-- a block of so many silent frames
abbrev pub silence : ℕ → List Sample
silence frames = replicate frames silent

-- the same block, silent
abbrev pub hushed : List Sample → List Sample
hushed block = silence (length block)

-- a block after these samples were written over its front; a lent slice keeps its length, so it is then the samples
abbrev pub refilled : List Sample → List Sample → List Sample
refilled block samples = take (length block) (samples ++ drop (length samples) block)
