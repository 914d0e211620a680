-- The ports that patch messages go through (LV2 core, lv2:designation; LV2 atom, atom:supports).
use Rattle.std.specs.Prelude.{ℕ, Bool, true, false, not, ◌&&◌, List, find, Option}
use Rattle.std.specs.Option.{option_or, option_map}
use Rattle.plugin_decl.specs.declared.declaration.Port.{Port}
use Rattle.plugin_decl.specs.declared.declaration.PortKind.{PortKind}
use Rattle.plugin_decl.specs.declared.declaration.PortKind.TheVariants.{Audio, Cv, Control, Atom, Unsupported}

-- of the inputs, or of the outputs
abbrev pub faces : Bool → Port → Bool
faces true port = port.input
faces false port = not port.input

abbrev pub is_atom_of : PortKind → Bool → Bool
is_atom_of Atom side = side
is_atom_of Audio side = false
is_atom_of Cv side = false
is_atom_of Control side = false
is_atom_of Unsupported side = false

-- an atom port of one direction
abbrev pub is_atom_end : Bool → Port → Bool
is_atom_end input port = is_atom_of port.kind (faces input port)

-- which is designated lv2:control
abbrev pub is_designated : Bool → Port → Bool
is_designated input port = is_atom_end input port && port.control

-- which supports patch:Message
abbrev pub is_speaking : Bool → Port → Bool
is_speaking input port = is_atom_end input port && port.patch

-- the first that is designated, else the first that supports messages
abbrev pub chosen : Bool → List Port → Option Port
chosen input ports = option_or (find (is_designated input) ports) (find (is_speaking input) ports)

-- its index
abbrev pub message_port : Bool → List Port → Option ℕ
message_port input ports = option_map (λ (port : Port). port.index) (chosen input ports)
