-- What the inputs of a setup's instances are given, as it is kept.
use Rattle.std.specs.Prelude.{◌≡◌, ℕ, ◌≤◌, ◌==◌, true, ◌&&◌, All, List, length, map, filter, fold, slice_get, Some}
use Rattle.std.specs.Str.{bytes_eq}
use Rattle.lv_base.specs.declared.number.Fixed.{Fixed}
use Rattle.session_script.specs.declared.session.SetLine.{SetLine}
use Rattle.plugin_decl.specs.declared.declaration.Port.{Port}
use Rattle.graph_order.specs.declared.setup.Setup.{Setup}
use Rattle.atom_forge.specs.Forged.{Forged}
use Rattle.plug_api.specs.Buffers.{Given, block_at, given_block}
use Rattle.plug_api.specs.Fresh.{input_room}
use Rattle.plug_api.specs.Ports.{HoldsBlock}
use Rattle.plug_api.specs.Roles.{is_sound}
use Rattle.session_play.specs.Setup.{ports_of}
use Rattle.session_play.specs.Signals.{mixed}
use Rattle.block_signals.specs.declared.inlet.Inlet.{Inlet}
use Rattle.block_signals.specs.declared.inlets.Inlets.{Inlets}
use Rattle.block_signals.specs.declared.outlets.Outlets.{Outlets}
use Rattle.block_signals.specs.declared.source.Input.{Input}
use Rattle.block_signals.specs.declared.source.Input.TheVariants.{Sound, Events, Still}
use Rattle.block_signals.specs.Board.{Board}
use Rattle.block_signals.specs.Given.{sound_given, value_given}
use Rattle.block_signals.specs.Messages.{KeepsFor}
use Rattle.block_signals.specs.Mixing.{heard, IsHeard}
use Rattle.block_signals.specs.Places.{places_of}
use Rattle.block_signals.specs.Sources.{input_of}

-- ---- one port

-- an input of sound has its block, and its sources are there
abbrev pub CanPut : ℕ → Given → Outlets → ℕ → Input → Type 0
CanPut frames ins outlets port (Sound sources) = HoldsBlock frames ins.blocks port × (length sources ≤ 256) × All (IsHeard frames outlets) sources
CanPut frames ins outlets port (Events sources) = Unit {0}
CanPut frames ins outlets port Still = Unit {0}

-- what is put there
abbrev pub with_input : ℕ → Given → Outlets → ℕ → Input → Given
with_input frames ins outlets port (Sound sources) = given_block ins port (mixed frames (map (heard outlets) sources))
with_input frames ins outlets port (Events sources) = ins
with_input frames ins outlets port Still = ins

-- it stands there
abbrev pub IsPut : ℕ → Given → Outlets → ℕ → Input → Type 0
IsPut frames ins outlets port (Sound sources) = block_at ins.blocks port ≡ mixed frames (map (heard outlets) sources)
IsPut frames ins outlets port (Events sources) = Unit {0}
IsPut frames ins outlets port Still = Unit {0}

-- ---- an instance

-- the value of a port with this symbol, once the lines of a session that set one have done so, in order
abbrev pub value_set : List SetLine → ℕ → List ℕ → Fixed → Fixed
value_set sets inst symbol first =
    fold (λ _ (line : SetLine). line.value) first (filter (λ (line : SetLine). line.inst == inst && bytes_eq line.symbol symbol) sets)

-- its ports have their places and sources, and there is room for what they are given
pub record IsInlet (setup : Setup) (inst : ℕ) (inlet : Inlet) : Type 0 where
  pub places : inlet.of ≡ places_of (ports_of setup inst)
  pub inputs : inlet.inputs ≡ map (input_of setup inst) (ports_of setup inst)
  pub symbols : inlet.symbols ≡ map (λ (port : Port). port.symbol) (ports_of setup inst)
  pub frames : inlet.ins.frames ≡ setup.session.block
  pub blocks : length inlet.ins.blocks ≡ length (ports_of setup inst)
  pub whole : (i : ℕ) (port : Port) → slice_get (ports_of setup inst) i ≡ Some port → (port.input && is_sound port.kind) ≡ true
      → length (block_at inlet.ins.blocks i) ≡ setup.session.block
  pub rooms : map (λ (forge : Forged). forge.room) inlet.ins.events ≡ map input_room (ports_of setup inst)

-- its control inputs have the values that are known
abbrev pub HasValues : Setup → Board → ℕ → Given → Type 0
HasValues setup board inst ins = ins.values ≡ map (value_given setup board inst) (ports_of setup inst)

-- the messages that were taken for it in the block at hand are kept
abbrev pub HasMessages : Setup → Board → ℕ → Inlet → Type 0
HasMessages setup board inst inlet = KeepsFor (ports_of setup inst) (board.messages inst) inlet.messages

-- all that is kept for it
abbrev pub Holds : Setup → Board → ℕ → Inlet → Type 0
Holds setup board inst inlet = IsInlet setup inst inlet × HasValues setup board inst inlet.ins × HasMessages setup board inst inlet

-- and for all instances, with room for sums
pub record HoldsInputs (setup : Setup) (board : Board) (inlets : Inlets) : Type 0 where
  pub all : length inlets.each.items ≡ length setup.decls
  pub sums : length inlets.sums.items ≡ setup.session.block
  pub kept : (inst : ℕ) (inlet : Inlet) → slice_get inlets.each.items inst ≡ Some inlet → Holds setup board inst inlet

-- its inputs of sound have what comes to them
abbrev pub HasSounds : Setup → Board → ℕ → Given → Type 0
HasSounds setup board inst ins = (i : ℕ) (port : Port) → slice_get (ports_of setup inst) i ≡ Some port → (port.input && is_sound port.kind) ≡ true
    → block_at ins.blocks i ≡ sound_given setup board inst port
