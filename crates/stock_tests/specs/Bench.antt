-- The buffers of an instance on a bench, where each port has its own place. A block has 16 frames.
use Rattle.std.specs.Prelude.{◌≡◌, ℕ, ◌<◌, true, false, List, length}
use Rattle.plugin_decl.specs.declared.declaration.Decl.{Decl}
use Rattle.plugin_decl.specs.declared.declaration.Port.{Port}
use Rattle.plugin_decl.specs.Valid.{IsValid}
use Rattle.plug_api.specs.Sound.{silence}
use Rattle.plug_api.specs.Signal.{nought}
use Rattle.plug_api.specs.Buffers.{Given, Left, block_at, fixed_at, forge_at, begun_forge}
use Rattle.plug_api.specs.Roles.{has_sound, has_control, has_atom}
use Rattle.plug_api.specs.declared.ports.Ports.{Ports}
use Rattle.plug_api.specs.Ports.{ports_of, ins_of, places_of, outs_of, place_of, room_of}
use Rattle.plug_api.specs.Sequences.{IsSequence}

abbrev pub frames : ℕ
frames = 16

-- each input has a place, with a sample for each frame
pub record AreIns (ports : List Port) (ins : Given) : Type 0 where
  pub frames_are : ins.frames ≡ frames
  pub blocks : length ins.blocks ≡ length ports
  pub values : length ins.values ≡ length ports
  pub events : length ins.events ≡ length ports
  pub whole : (i : ℕ) → has_sound true ports i ≡ true → length (block_at ins.blocks i) ≡ frames

pub record IsBench (decl : Decl) (given : Given) : Type 0 where
  pub valid : IsValid decl
  pub ins : AreIns decl.ports given

-- no port but the first takes atoms, and that has a sequence of the block
pub record HasEvents (ports : List Port) (ins : Given) : Type 0 where
  pub first : (i : ℕ) → has_atom true ports i ≡ true → i ≡ 0
  pub sequence : has_atom true ports 0 ≡ true → IsSequence frames (forge_at ins.events 0)

-- each output has a place, which is silent, 0 or a sequence without events
pub record AreOuts (ports : List Port) (outs : Left) : Type 0 where
  pub blocks : length outs.blocks ≡ length ports
  pub values : length outs.values ≡ length ports
  pub forges : length outs.forges ≡ length ports
  pub silent : (i : ℕ) → i < length ports → block_at outs.blocks i ≡ silence frames
  pub noughts : (i : ℕ) → i < length ports → fixed_at outs.values i ≡ nought
  pub begun : (i : ℕ) → has_atom false ports i ≡ true → forge_at outs.forges i ≡ begun_forge (room_of ports i)

-- a bench is lent
pub record Lends (lent : Ports) (decl : Decl) : Type 0 where
  pub valid : IsValid decl
  pub ports : ports_of lent ≡ decl.ports
  pub ins : AreIns (ports_of lent) (ins_of lent)
  pub events : HasEvents (ports_of lent) (ins_of lent)
  pub outs : AreOuts (ports_of lent) (outs_of lent)
  pub own : (i : ℕ) → i < length (ports_of lent) → place_of lent i ≡ i
  pub places : length (places_of lent) ≡ length (ports_of lent)

-- each output has a place
pub record HaveOuts (ports : List Port) (outs : Left) : Type 0 where
  pub sounds : (i : ℕ) → has_sound false ports i ≡ true → i < length outs.blocks
  pub controls : (i : ℕ) → has_control false ports i ≡ true → i < length outs.values
  pub atoms : (i : ℕ) → has_atom false ports i ≡ true → i < length outs.forges
