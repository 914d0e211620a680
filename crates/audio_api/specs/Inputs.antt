-- What an instance is given for one block.
use Rattle.std.specs.Prelude.{ℕ, List, [], pos, replicate, slice_index_or, slice_set}
use Rattle.lv_base.specs.declared.number.Fixed.{Fixed}
use Rattle.lv_base.specs.declared.number.Sample.{Sample}
use Rattle.audio_api.specs.Sound.{silence}

-- the frames of the block, and by port number the samples of audio inputs and the values of control inputs
pub record Inputs : Type 0 where
  pub frames : ℕ
  pub blocks : List (List Sample)
  pub values : List Fixed

-- the control value 0
abbrev pub nought : Fixed
nought = record { 0 = pos 0 }

-- so many ports, all silent and 0
abbrev pub silent_inputs : ℕ → ℕ → Inputs
silent_inputs count frames = record { frames = frames; blocks = replicate count (silence frames); values = replicate count nought }

-- the samples at port i
abbrev pub samples_at : Inputs → ℕ → List Sample
samples_at given i = slice_index_or given.blocks i []

-- the value at port i
abbrev pub value_at : Inputs → ℕ → Fixed
value_at given i = slice_index_or given.values i nought

-- the same with these samples at port i
abbrev pub with_samples : Inputs → ℕ → List Sample → Inputs
with_samples given i samples = record given { blocks = slice_set given.blocks i samples }

-- the same with this value at port i
abbrev pub with_value : Inputs → ℕ → Fixed → Inputs
with_value given i value = record given { values = slice_set given.values i value }
