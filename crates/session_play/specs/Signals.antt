-- The signals of a block: what an instance's outputs gave, and what its inputs are given (LV2 core: audio, CV and control ports; LV2 atom).
use Rattle.std.specs.Prelude.{ℕ, ◌-◌, ◌==◌, nat_eq, Bool, true, false, ◌&&◌, if◌then◌else◌, List, [], ◌∷◌, ◌++◌, map, filter, fold, slice_index_or, pos, Option, Some, None, unwrap_or, option_and_then}
use Rattle.std.specs.List.{range_with_len}
use Rattle.std.specs.Option.{option_map_or}
use Rattle.std.specs.Str.{bytes_eq}
use Rattle.lv_base.specs.declared.number.Fixed.{Fixed}
use Rattle.lv_base.specs.declared.number.Sample.{Sample}
use Rattle.lv_base.specs.Number.{mix_of}
use Rattle.plugin_decl.specs.declared.declaration.Port.{Port}
use Rattle.plugin_decl.specs.declared.declaration.PortKind.{PortKind}
use Rattle.plugin_decl.specs.declared.declaration.PortKind.TheVariants as kind
use Rattle.session_script.specs.declared.session.Action.{Action}
use Rattle.session_script.specs.declared.session.CableLine.{CableLine}
use Rattle.session_script.specs.declared.session.Deed.{Deed}
use Rattle.session_script.specs.declared.session.Deed.TheVariants as deed
use Rattle.session_script.specs.declared.session.SetLine.{SetLine}
use Rattle.graph_order.specs.Ports.{port_at}
use Rattle.atom_core.specs.Value.{Value}
use Rattle.atom_sequence.specs.Event.{Event}
use Rattle.atom_sequence.specs.Merge.{merged}
use Rattle.step_law.specs.declared.entry.Kind.TheVariants.{Take}
use Rattle.step_law.specs.declared.ring.Ring.TheVariants.{ControlToAudio}
use Rattle.plug_api.specs.Sound.{silent, silence}
use Rattle.plug_api.specs.Signal.{Signal, sound, control, events, nothing, nought, samples_in, events_in}
use Rattle.plug_api.specs.Inputs.{Inputs, signal_after}
use Rattle.record_law.specs.Entries.{is_on}
use Rattle.record_law.specs.Message.{Message}
use Rattle.record_law.specs.Message.Message.{input}
use Rattle.session_play.specs.EventBytes.{events_at, bytes_of}
use Rattle.session_play.specs.Looking.{in_block, before_block, outputs_of, newer}
use Rattle.session_play.specs.Patch.{message_of}
use Rattle.graph_order.specs.declared.setup.Setup.{Setup}
use Rattle.session_play.specs.Setup.{ports_of, patch_port, action_at}
use Rattle.session_play.specs.Value.{Moment, Play}

-- ---- what outputs gave

-- an output that gave nothing: silence, the value 0, or no events
abbrev pub quiet : ℕ → PortKind → Signal
quiet frames kind.Audio = sound (silence frames)
quiet frames kind.Cv = sound (silence frames)
quiet frames kind.Control = control nought
quiet frames kind.Atom = events []
quiet frames kind.Unsupported = nothing

-- what an output of an instance gave in a block; that of an instance that didn't run gave nothing
abbrev pub output_in : {F B : Type 0} → Setup → Play F B → ℕ → Port → Signal
output_in setup block inst port = signal_after (quiet setup.session.block port.kind) (unwrap_or (outputs_of inst block) []) port.index

-- the block that a cable leads from: the one at hand, or with a delay the one before it, before which there was none
abbrev pub led_from : {F B : Type 0} → Bool → Play F B → Play F B
led_from false p = in_block p
led_from true p = in_block (before_block p)

-- what comes over a cable
abbrev pub cable_signal : {F B : Type 0} → Setup → Play F B → CableLine → Signal
cable_signal setup p cable = option_map_or (output_in setup (led_from cable.delayed p) cable.source) (port_at setup.decls cable.source cable.output) nothing

-- the cables to an input of an instance, in order of their lines
abbrev pub cables_to : Setup → ℕ → Port → List CableLine
cables_to setup inst port = filter (λ (cable : CableLine). cable.target == inst && bytes_eq cable.input port.symbol) setup.session.cables

-- what comes over them
abbrev pub coming : {F B : Type 0} → Setup → Play F B → ℕ → Port → List Signal
coming setup p inst port = map (cable_signal setup p) (cables_to setup inst port)

-- ---- audio and CV inputs

-- in each frame the exact sum, clamped once
abbrev pub mixed : ℕ → List (List Sample) → List Sample
mixed frames parts = map (λ frame. mix_of (map (λ part. slice_index_or part frame silent) parts)) (range_with_len 0 frames)

abbrev pub sound_input : {F B : Type 0} → Setup → Play F B → ℕ → Port → List Sample
sound_input setup p inst port = mixed setup.session.block (map samples_in (coming setup p inst port))

-- ---- control inputs

-- the value that a line of a session sets at a port, if it does
abbrev pub is_set_line : ℕ → Port → SetLine → Bool
is_set_line inst port line = line.inst == inst && bytes_eq line.symbol port.symbol

-- what the last such line sets, else the port's first value
abbrev pub value_before : Setup → ℕ → Port → Fixed
value_before setup inst port = fold (λ _ (line : SetLine). line.value) port.first (filter (is_set_line inst port) setup.session.sets)

-- the value that an action sets at a port of its instance
abbrev pub set_by : Port → Deed → Option Fixed
set_by port (deed.Set symbol value) = if bytes_eq symbol port.symbol then Some value else None
set_by port other = None

abbrev pub set_at : ℕ → Port → Action → Option Fixed
set_at inst port action = if action.inst == inst then set_by port action.deed else None

-- the action of which a moment takes the value or the message
abbrev pub action_in : Setup → Message → Option Action
action_in setup (input action) = action_at setup action
action_in setup message = None

abbrev pub action_taken : {F B : Type 0} → Setup → Moment F B → Option Action
action_taken setup x = if is_on Take ControlToAudio x.step.entry then action_in setup x.step.about else None

-- the value that was taken last
abbrev pub value_taken : {F B : Type 0} → Setup → Play F B → ℕ → Port → Option Fixed
value_taken setup [] inst port = None
value_taken setup (x ∷ p) inst port = newer (option_and_then (set_at inst port) (action_taken setup x)) (value_taken setup p inst port)

abbrev pub control_input : {F B : Type 0} → Setup → Play F B → ℕ → Port → Fixed
control_input setup p inst port = unwrap_or (value_taken setup p inst port) (value_before setup inst port)

-- ---- atom inputs

-- an event at the start of the block
abbrev pub at_start : Value → Event
at_start value = record { time = pos 0; value = value }

-- the message that an action sends to an instance
abbrev pub message_to : List (List ℕ) → ℕ → Action → Option Value
message_to urids inst action = if action.inst == inst then message_of urids action.deed else None

abbrev pub put_event : Option Value → List Event → List Event
put_event None earlier = earlier
put_event (Some value) earlier = earlier ++ at_start value ∷ []

-- those that were taken for it in a block, in order
abbrev pub messages_taken : {F B : Type 0} → Setup → List (List ℕ) → Play F B → ℕ → List Event
messages_taken setup urids [] inst = []
messages_taken setup urids (x ∷ p) inst =
    put_event (option_and_then (message_to urids inst) (action_taken setup x)) (messages_taken setup urids p inst)

-- they come in at its patch port
abbrev pub is_patch_port : Setup → ℕ → Port → Bool
is_patch_port setup inst port = option_map_or (nat_eq port.index) (patch_port setup inst) false

abbrev pub messages_in : {F B : Type 0} → Setup → List (List ℕ) → Play F B → ℕ → Port → List Event
messages_in setup urids p inst port = let taken = messages_taken setup urids (in_block p) inst in if is_patch_port setup inst port then taken else []

-- messages first, then the events of each cable, all in stable order of time, as far as there is room after the sequence's own 16 bytes
abbrev pub atom_input : {F B : Type 0} → Setup → List (List ℕ) → Play F B → ℕ → Port → List Event
atom_input setup urids p inst port =
    merged (port.room - 16) (messages_in setup urids p inst port ∷ map (λ it. events_at (events_in it)) (coming setup p inst port))

-- ---- a run's inputs

-- what an input of a kind is given
abbrev pub input_of : {F B : Type 0} → PortKind → Setup → List (List ℕ) → Play F B → ℕ → Port → Signal
input_of kind.Audio setup urids p inst port = sound (sound_input setup p inst port)
input_of kind.Cv setup urids p inst port = sound (sound_input setup p inst port)
input_of kind.Control setup urids p inst port = control (control_input setup p inst port)
input_of kind.Atom setup urids p inst port = events (bytes_of (atom_input setup urids p inst port))
input_of kind.Unsupported setup urids p inst port = nothing

abbrev pub port_given : {F B : Type 0} → Setup → List (List ℕ) → Play F B → ℕ → Port → Signal
port_given setup urids p inst port = if port.input then input_of port.kind setup urids p inst port else nothing

-- what a run of an instance is given after audio's own moments, where these URIs have numbers
abbrev pub inputs_of : {F B : Type 0} → Setup → List (List ℕ) → Play F B → ℕ → Inputs
inputs_of setup urids p inst = record {
  frames = setup.session.block;
  signals = map (port_given setup urids p inst) (ports_of setup inst);
  rooms = map (λ (port : Port). port.room) (ports_of setup inst);
}
