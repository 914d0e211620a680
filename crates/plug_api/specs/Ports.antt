-- Ports that are lent for a run.
use Rattle.std.specs.Prelude.{◌≡◌, ℕ, ◌<◌, if◌then◌else◌, Bool, true, false, IsTrue, List, [], ◌∷◌, length, map, slice_index, slice_index_or}
use Rattle.std.specs.Borrow.{GName}
use Rattle.lv_base.specs.declared.number.Sample.{Sample}
use Rattle.plugin_decl.specs.declared.declaration.Port.{Port}
use Rattle.plugin_decl.specs.declared.declaration.PortKind.{PortKind}
use Rattle.plugin_decl.specs.declared.declaration.PortKind.TheVariants.{Audio, Cv, Control, Atom, Unsupported}
use Rattle.plug_api.specs.declared.ports.Ports.{Ports}
use Rattle.plug_api.specs.Sound.{silence}
use Rattle.plug_api.specs.Signal.{Signal, sound, control, events, nothing, nought}
use Rattle.plug_api.specs.Inputs.{Inputs}
use Rattle.plug_api.specs.Buffers.{Given, Left, block_at, fixed_at, forge_at, event_bytes, begun_forge}
use Rattle.plug_api.specs.Roles.{has_sound, has_control, has_atom, AreNumbered}
use Rattle.plug_api.specs.Sequences.{IsSequence}

-- the declared ports
abbrev pub ports_of : Ports → List Port
ports_of lent = lent.ports.now

-- the buffers of the inputs
abbrev pub ins_of : Ports → Given
ins_of lent = lent.ins.now

-- the places of the output ports, by port number
abbrev pub places_of : Ports → List ℕ
places_of lent = lent.of.now

-- the buffers of the outputs
abbrev pub outs_of : Ports → Left
outs_of lent = lent.outs.now

-- the borrow of these
abbrev pub reference_of : Ports → GName
reference_of lent = lent.outs.ghost_name

-- the place of output port i in the list of its kind
abbrev pub place_of : Ports → ℕ → ℕ
place_of lent i = slice_index (places_of lent) i

-- what a port of a kind is given at its place
abbrev pub kind_given : PortKind → Given → ℕ → Signal
kind_given Audio ins i = sound (block_at ins.blocks i)
kind_given Cv ins i = sound (block_at ins.blocks i)
kind_given Control ins i = control (fixed_at ins.values i)
kind_given Atom ins i = events (event_bytes (forge_at ins.events i))
kind_given Unsupported ins i = nothing

-- what a port is given
abbrev pub port_given : Given → Port → Signal
port_given ins port = if port.input then kind_given port.kind ins port.index else nothing

-- what a run is given
abbrev pub inputs_of : Ports → Inputs
inputs_of lent = record {
  frames = (ins_of lent).frames;
  signals = map (port_given (ins_of lent)) (ports_of lent);
  rooms = map (λ (port : Port). port.room) (ports_of lent);
}

-- for how many bytes port i has room
abbrev pub room_of : List Port → ℕ → ℕ
room_of ports i = slice_index_or (map (λ (port : Port). port.room) ports) i 0

-- there is a block of so many frames at a place
pub record HoldsBlock (frames : ℕ) (blocks : List (List Sample)) (place : ℕ) : Type 0 where
  pub there : place < length blocks
  pub whole : length (block_at blocks place) ≡ frames

-- each input has its place, with a sample for each frame, a value, or a finished sequence whose events lie in the block in order of time
pub record HaveInputs (lent : Ports) : Type 0 where
  pub sounds : (i : ℕ) → IsTrue (has_sound true (ports_of lent) i) → HoldsBlock (ins_of lent).frames (ins_of lent).blocks i
  pub controls : (i : ℕ) → IsTrue (has_control true (ports_of lent) i) → i < length (ins_of lent).values
  pub atoms : (i : ℕ) → IsTrue (has_atom true (ports_of lent) i) → i < length (ins_of lent).events
  pub sequences : (i : ℕ) → IsTrue (has_atom true (ports_of lent) i) → IsSequence (ins_of lent).frames (forge_at (ins_of lent).events i)

-- each output has its place, which is silent, 0 or a sequence without events
pub record HaveOutputs (lent : Ports) : Type 0 where
  pub places : length (places_of lent) ≡ length (ports_of lent)
  pub sounds : (i : ℕ) → IsTrue (has_sound false (ports_of lent) i) → HoldsBlock (ins_of lent).frames (outs_of lent).blocks (place_of lent i)
  pub silent : (i : ℕ) → IsTrue (has_sound false (ports_of lent) i)
      → block_at (outs_of lent).blocks (place_of lent i) ≡ silence (ins_of lent).frames
  pub controls : (i : ℕ) → IsTrue (has_control false (ports_of lent) i) → place_of lent i < length (outs_of lent).values
  pub noughts : (i : ℕ) → IsTrue (has_control false (ports_of lent) i) → fixed_at (outs_of lent).values (place_of lent i) ≡ nought
  pub atoms : (i : ℕ) → IsTrue (has_atom false (ports_of lent) i) → place_of lent i < length (outs_of lent).forges
  pub begun : (i : ℕ) → IsTrue (has_atom false (ports_of lent) i)
      → forge_at (outs_of lent).forges (place_of lent i) ≡ begun_forge (room_of (ports_of lent) i)

-- two outputs of one list have different places
abbrev pub AreApart : (Bool → List Port → ℕ → Bool) → Ports → Type 0
AreApart has lent =
    (i j : ℕ) → IsTrue (has false (ports_of lent) i) → IsTrue (has false (ports_of lent) j) → place_of lent i ≡ place_of lent j → i ≡ j

-- the ports are lent as a run wants them
pub record IsLent (lent : Ports) : Type 0 where
  pub numbered : AreNumbered (ports_of lent)
  pub inputs : HaveInputs lent
  pub outputs : HaveOutputs lent
  pub sounds_apart : AreApart has_sound lent
  pub controls_apart : AreApart has_control lent
  pub atoms_apart : AreApart has_atom lent

-- the same ports, over the same buffers
pub record IsSameLoan (old new : Ports) : Type 0 where
  pub ports : ports_of new ≡ ports_of old
  pub ins : ins_of new ≡ ins_of old
  pub places : places_of new ≡ places_of old
  pub reference : reference_of new ≡ reference_of old
