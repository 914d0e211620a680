-- Which port has which direction and kind (LV2 core: InputPort, OutputPort; AudioPort, CVPort, ControlPort; LV2 atom: AtomPort).
use Rattle.std.specs.Prelude.{◌≡◌, ℕ, Bool, true, false, ◌&&◌, List, Option, Some, None, slice_get}
use Rattle.plugin_decl.specs.declared.declaration.Port.{Port}
use Rattle.plugin_decl.specs.declared.declaration.PortKind.{PortKind}
use Rattle.plugin_decl.specs.declared.declaration.PortKind.TheVariants.{Audio, Cv, Control, Atom, Unsupported}
use Rattle.plugin_decl.specs.MessagePorts.{faces}

-- a port of samples
abbrev pub is_sound : PortKind → Bool
is_sound Audio = true
is_sound Cv = true
is_sound Control = false
is_sound Atom = false
is_sound Unsupported = false

-- of samples that are heard: an audio port, and no CV port
abbrev pub is_audio : PortKind → Bool
is_audio Audio = true
is_audio Cv = false
is_audio Control = false
is_audio Atom = false
is_audio Unsupported = false

abbrev pub is_control : PortKind → Bool
is_control Control = true
is_control Audio = false
is_control Cv = false
is_control Atom = false
is_control Unsupported = false

abbrev pub is_atom : PortKind → Bool
is_atom Atom = true
is_atom Audio = false
is_atom Cv = false
is_atom Control = false
is_atom Unsupported = false

-- a port of such a kind, an input or an output
abbrev pub port_is : (PortKind → Bool) → Bool → Option Port → Bool
port_is kind input None = false
port_is kind input (Some port) = faces input port && kind port.kind

-- there is such a port with number i
abbrev pub has : (PortKind → Bool) → Bool → List Port → ℕ → Bool
has kind input ports i = port_is kind input (slice_get ports i)

abbrev pub has_sound : Bool → List Port → ℕ → Bool
has_sound input ports i = has is_sound input ports i

abbrev pub has_audio : Bool → List Port → ℕ → Bool
has_audio input ports i = has is_audio input ports i

abbrev pub has_control : Bool → List Port → ℕ → Bool
has_control input ports i = has is_control input ports i

abbrev pub has_atom : Bool → List Port → ℕ → Bool
has_atom input ports i = has is_atom input ports i

-- the port at place i has the index i
abbrev pub AreNumbered : List Port → Type 0
AreNumbered ports = (i : ℕ) (port : Port) → slice_get ports i ≡ Some port → port.index ≡ i
