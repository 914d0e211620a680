-- The ports of an instance, lent for its run.
use Rattle.std.specs.Prelude.{◌≡◌, ℕ, ◌<◌, true, ◌&&◌, length, slice_get, Some}
use Rattle.plugin_decl.specs.declared.declaration.Port.{Port}
use Rattle.graph_order.specs.declared.setup.Setup.{Setup}
use Rattle.graph_order.specs.Setup.{IsReady}
use Rattle.plug_api.specs.declared.ports.Ports.{Ports}
use Rattle.plug_api.specs.Buffers.{Given, forge_at, event_bytes}
use Rattle.plug_api.specs.Ports as loan
use Rattle.plug_api.specs.Roles.{is_atom}
use Rattle.plug_api.specs.Sequences.{IsSequence}
use Rattle.session_play.specs.EventBytes.{bytes_of}
use Rattle.session_play.specs.Setup.{ports_of}
use Rattle.block_signals.specs.declared.inlet.Inlet.{Inlet}
use Rattle.block_signals.specs.Board.{Board}
use Rattle.block_signals.specs.Given.{events_given, inputs_from}
use Rattle.block_signals.specs.Inlets.{IsInlet, HasValues, HasSounds}
use Rattle.block_signals.specs.Places.{quiet_outs}

-- an atom input has its finished sequence, with the events that come to it
pub record HasSequence (setup : Setup) (board : Board) (inst : ℕ) (ins : Given) (i : ℕ) (port : Port) : Type 0 where
  pub there : i < length ins.events
  pub sequence : IsSequence setup.session.block (forge_at ins.events i)
  pub given : event_bytes (forge_at ins.events i) ≡ bytes_of (events_given setup board inst port)

abbrev pub HasEvents : Setup → Board → ℕ → Given → Type 0
HasEvents setup board inst ins = (i : ℕ) (port : Port) → slice_get (ports_of setup inst) i ≡ Some port → (port.input && is_atom port.kind) ≡ true
    → HasSequence setup board inst ins i port

-- all that a run is given stands at the inputs of an instance
pub record IsFilled (setup : Setup) (board : Board) (inst : ℕ) (inlet : Inlet) : Type 0 where
  pub wired : IsInlet setup inst inlet
  pub values : HasValues setup board inst inlet.ins
  pub sounds : HasSounds setup board inst inlet.ins
  pub events : HasEvents setup board inst inlet.ins

-- ports that are lent as a run wants them, and give what it is to be given
pub record AreReady (setup : Setup) (board : Board) (inst : ℕ) (ports : Ports) : Type 0 where
  pub lent : loan.IsLent ports
  pub given : loan.inputs_of ports ≡ inputs_from setup board inst

-- ports of an instance that is filled, over quiet outputs, are ready
abbrev pub FilledIsReady : Type 0
FilledIsReady = (setup : Setup) (board : Board) (inst : ℕ) (inlet : Inlet) (ports : Ports) → IsReady setup → IsFilled setup board inst inlet
    → loan.ports_of ports ≡ ports_of setup inst → loan.ins_of ports ≡ inlet.ins → loan.places_of ports ≡ inlet.of
    → loan.outs_of ports ≡ quiet_outs setup.session.block (ports_of setup inst) → AreReady setup board inst ports
