-- The buffers that ports are lent over.
use Rattle.std.specs.Prelude.{ℕ, nat_le, if◌then◌else◌, Bool, true, false, List, [], ◌∷◌, length, map, drop, replicate, slice_index_or, slice_set}
use Rattle.lv_base.specs.declared.number.Fixed.{Fixed}
use Rattle.lv_base.specs.declared.number.Sample.{Sample}
use Rattle.atom_forge.specs.Forged.{Forged, opening, with_piece}
use Rattle.atom_forge.specs.declared.level.Holds.TheVariants.{Events}
use Rattle.plug_api.specs.Sound.{silence, hushed}
use Rattle.plug_api.specs.Signal.{nought}

-- what an instance is given: the frames of the block, and a place for each of its ports in each list
pub record Given : Type 0 where
  pub frames : ℕ
  pub blocks : List (List Sample)
  pub values : List Fixed
  pub events : List Forged

-- what instances leave behind: a place for each output port, in the list of its kind
pub record Left : Type 0 where
  pub blocks : List (List Sample)
  pub values : List Fixed
  pub forges : List Forged

-- a forge with nothing in it
abbrev pub empty_forge : ℕ → Forged
empty_forge room = record { room = room; bytes = []; levels = []; waits = false }

-- a forge in which a sequence is open and has no events yet
abbrev pub begun_forge : ℕ → Forged
begun_forge room = record { room = room; bytes = opening 10 0 0; levels = record { holds = Events; at = 0 } ∷ []; waits = false }

-- the bytes of the events of a sequence, which stand after its header, its unit and its padding
abbrev pub event_bytes : Forged → List ℕ
event_bytes forge = drop 16 forge.bytes

-- what stands at a place
abbrev pub block_at : List (List Sample) → ℕ → List Sample
block_at blocks place = slice_index_or blocks place []

abbrev pub fixed_at : List Fixed → ℕ → Fixed
fixed_at values place = slice_index_or values place nought

abbrev pub forge_at : List Forged → ℕ → Forged
forge_at forges place = slice_index_or forges place (empty_forge 0)

-- the inputs with something else at a place
abbrev pub given_block : Given → ℕ → List Sample → Given
given_block ins place block = record ins { blocks = slice_set ins.blocks place block }

abbrev pub given_value : Given → ℕ → Fixed → Given
given_value ins place value = record ins { values = slice_set ins.values place value }

abbrev pub given_events : Given → ℕ → Forged → Given
given_events ins place forge = record ins { events = slice_set ins.events place forge }

-- the outputs with something else at a place
abbrev pub with_block : Left → ℕ → List Sample → Left
with_block outs place block = record outs { blocks = slice_set outs.blocks place block }

abbrev pub with_value : Left → ℕ → Fixed → Left
with_value outs place value = record outs { values = slice_set outs.values place value }

abbrev pub with_forge : Left → ℕ → Forged → Left
with_forge outs place forge = record outs { forges = slice_set outs.forges place forge }

-- new outputs: silent blocks, the values 0, and forges with these rooms
abbrev pub fresh_outputs : ℕ → ℕ → ℕ → List ℕ → Left
fresh_outputs blocks frames values rooms =
    record { blocks = replicate blocks (silence frames); values = replicate values nought; forges = map empty_forge rooms }

-- a forge as a run wants it: with an open sequence, where it has room for one
abbrev pub begun : Forged → Forged
begun forge = if nat_le 16 forge.room then begun_forge forge.room else empty_forge forge.room

-- the outputs as each run wants them
abbrev pub silenced : Left → Left
silenced outs =
    record { blocks = map hushed outs.blocks; values = replicate (length outs.values) nought; forges = map begun outs.forges }
