-- What instances leave behind in one block.
use Rattle.std.specs.Prelude.{ℕ, List, [], length, map, replicate, slice_index_or, slice_set}
use Rattle.lv_base.specs.declared.number.Fixed.{Fixed}
use Rattle.lv_base.specs.declared.number.Sample.{Sample}
use Rattle.audio_api.specs.Sound.{silence, hushed}
use Rattle.audio_api.specs.Inputs.{nought}

-- by place, the samples of audio outputs and the values of control outputs
pub record Outputs : Type 0 where
  pub blocks : List (List Sample)
  pub values : List Fixed

-- so many places, all silent and 0
abbrev pub silent_outputs : ℕ → ℕ → ℕ → Outputs
silent_outputs blocks frames values = record { blocks = replicate blocks (silence frames); values = replicate values nought }

-- the samples at a place
abbrev pub block_at : Outputs → ℕ → List Sample
block_at outs place = slice_index_or outs.blocks place []

-- the value at a place
abbrev pub value_at : Outputs → ℕ → Fixed
value_at outs place = slice_index_or outs.values place nought

-- the same with these samples at a place
abbrev pub with_block : Outputs → ℕ → List Sample → Outputs
with_block outs place samples = record outs { blocks = slice_set outs.blocks place samples }

-- the same places, all silent and 0
abbrev pub silenced : Outputs → Outputs
silenced outs = record { blocks = map hushed outs.blocks; values = replicate (length outs.values) nought }
