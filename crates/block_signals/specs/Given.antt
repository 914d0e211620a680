-- What a run is given, by what is known (LV2 core: audio, CV and control ports; LV2 atom).
use Rattle.std.specs.Prelude.{ℕ, ◌-◌, if◌then◌else◌, Bool, true, false, List, [], ◌∷◌, map, Option, unwrap_or}
use Rattle.std.specs.Option.{option_map_or}
use Rattle.lv_base.specs.declared.number.Fixed.{Fixed}
use Rattle.lv_base.specs.declared.number.Sample.{Sample}
use Rattle.plugin_decl.specs.declared.declaration.Port.{Port}
use Rattle.plugin_decl.specs.declared.declaration.PortKind.{PortKind}
use Rattle.plugin_decl.specs.declared.declaration.PortKind.TheVariants as kind
use Rattle.session_script.specs.declared.session.CableLine.{CableLine}
use Rattle.atom_sequence.specs.Event.{Event}
use Rattle.atom_sequence.specs.Merge.{merged}
use Rattle.graph_order.specs.declared.setup.Setup.{Setup}
use Rattle.graph_order.specs.Ports.{port_at}
use Rattle.plug_api.specs.Signal.{Signal, sound, control, events, nothing, samples_in, events_in}
use Rattle.plug_api.specs.Inputs.{Inputs, Outputs, signal_after}
use Rattle.session_play.specs.EventBytes.{events_at, bytes_of}
use Rattle.session_play.specs.Setup.{ports_of}
use Rattle.session_play.specs.Signals.{quiet, cables_to, mixed, value_before, is_patch_port}
use Rattle.block_signals.specs.Board.{Board}

-- what stands at an output port after a run that gave this, if there was one
abbrev pub output_after : ℕ → Port → Option Outputs → Signal
output_after frames port given = signal_after (quiet frames port.kind) (unwrap_or given []) port.index

-- the runs that a cable leads from: those of this block, or with a delay those of the one before
abbrev pub led_from : Bool → Board → ℕ → Option Outputs
led_from false board = board.now
led_from true board = board.before

-- what comes over a cable
abbrev pub cable_brings : Setup → Board → CableLine → Signal
cable_brings setup board cable =
    option_map_or (λ port. output_after setup.session.block port (led_from cable.delayed board cable.source)) (port_at setup.decls cable.source cable.output) nothing

-- what comes to an input of an instance, in order of the cables' lines
abbrev pub coming : Setup → Board → ℕ → Port → List Signal
coming setup board inst port = map (cable_brings setup board) (cables_to setup inst port)

-- at an audio or CV input stands the exact sum of it, clamped once
abbrev pub sound_given : Setup → Board → ℕ → Port → List Sample
sound_given setup board inst port = mixed setup.session.block (map samples_in (coming setup board inst port))

-- at a control input the value that was taken last, else that of the session, else the port's first
abbrev pub value_given : Setup → Board → ℕ → Port → Fixed
value_given setup board inst port = unwrap_or (board.values inst port) (value_before setup inst port)

-- at an atom input the messages, if it is the port for them, then all events that come, in order of time, as far as there is room
abbrev pub messages_given : Setup → Board → ℕ → Port → List Event
messages_given setup board inst port = if is_patch_port setup inst port then board.messages inst else []

abbrev pub events_given : Setup → Board → ℕ → Port → List Event
events_given setup board inst port =
    merged (port.room - 16) (messages_given setup board inst port ∷ map (λ it. events_at (events_in it)) (coming setup board inst port))

-- what an input of a kind is given
abbrev pub input_given : PortKind → Setup → Board → ℕ → Port → Signal
input_given kind.Audio setup board inst port = sound (sound_given setup board inst port)
input_given kind.Cv setup board inst port = sound (sound_given setup board inst port)
input_given kind.Control setup board inst port = control (value_given setup board inst port)
input_given kind.Atom setup board inst port = events (bytes_of (events_given setup board inst port))
input_given kind.Unsupported setup board inst port = nothing

abbrev pub port_given : Setup → Board → ℕ → Port → Signal
port_given setup board inst port = if port.input then input_given port.kind setup board inst port else nothing

-- what a run of an instance is given
abbrev pub inputs_from : Setup → Board → ℕ → Inputs
inputs_from setup board inst = record {
  frames = setup.session.block;
  signals = map (port_given setup board inst) (ports_of setup inst);
  rooms = map (λ (port : Port). port.room) (ports_of setup inst);
}
