-- The ports that a session's lines name, and which of them go together.
use Rattle.std.specs.Prelude.{ℕ, Bool, true, false, List, find, Option, slice_get, option_and_then}
use Rattle.std.specs.Str.{bytes_eq}
use Rattle.plugin_decl.specs.declared.declaration.Decl.{Decl}
use Rattle.plugin_decl.specs.declared.declaration.Port.{Port}
use Rattle.plugin_decl.specs.declared.declaration.PortKind.{PortKind}
use Rattle.plugin_decl.specs.declared.declaration.PortKind.TheVariants.{Audio, Cv, Control, Atom, Unsupported}

-- the port of a declaration with this symbol (LV2 core, lv2:symbol)
abbrev pub port_in : List ℕ → Decl → Option Port
port_in symbol decl = find (λ (port : Port). bytes_eq port.symbol symbol) decl.ports

-- the port of an instance with this symbol
abbrev pub port_at : List Decl → ℕ → List ℕ → Option Port
port_at decls inst symbol = option_and_then (port_in symbol) (slice_get decls inst)

-- a value can be set there
abbrev pub is_control : PortKind → Bool
is_control Control = true
is_control Audio = false
is_control Cv = false
is_control Atom = false
is_control Unsupported = false

-- it can be heard: a sample for each frame
abbrev pub is_signal : PortKind → Bool
is_signal Audio = true
is_signal Cv = true
is_signal Control = false
is_signal Atom = false
is_signal Unsupported = false

abbrev pub is_audio : PortKind → Bool
is_audio Audio = true
is_audio Cv = false
is_audio Control = false
is_audio Atom = false
is_audio Unsupported = false

abbrev pub is_cv : PortKind → Bool
is_cv Cv = true
is_cv Audio = false
is_cv Control = false
is_cv Atom = false
is_cv Unsupported = false

abbrev pub is_atom : PortKind → Bool
is_atom Atom = true
is_atom Audio = false
is_atom Cv = false
is_atom Control = false
is_atom Unsupported = false

-- a cable leads from the one kind to the other: both are audio, CV or atom
abbrev pub fits : PortKind → PortKind → Bool
fits Audio kind = is_audio kind
fits Cv kind = is_cv kind
fits Atom kind = is_atom kind
fits Control kind = false
fits Unsupported kind = false
