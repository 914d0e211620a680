-- Where the signals at an input come from.
use Rattle.std.specs.Prelude.{ℕ, ◌==◌, Bool, not, ◌&&◌, if◌then◌else◌, List, filter_map, Option, Some, None, option_and_then}
use Rattle.std.specs.Str.{bytes_eq}
use Rattle.plugin_decl.specs.declared.declaration.Port.{Port}
use Rattle.plugin_decl.specs.declared.declaration.PortKind.{PortKind}
use Rattle.session_script.specs.declared.session.CableLine.{CableLine}
use Rattle.graph_order.specs.declared.setup.Setup.{Setup}
use Rattle.graph_order.specs.Ports.{port_at}
use Rattle.plug_api.specs.Roles.{is_sound, is_atom}
use Rattle.session_play.specs.Setup.{ports_of}
use Rattle.block_signals.specs.declared.source.Source.{Source}
use Rattle.block_signals.specs.declared.source.Input.{Input}
use Rattle.block_signals.specs.declared.source.Input.TheVariants.{Sound, Events, Still}
use Rattle.block_signals.specs.Places.{beside, place_in}

-- a cable's output, where it stands in one list with a kind
abbrev pub source_at : Setup → PortKind → CableLine → Port → Option Source
source_at setup kind cable output =
    if not output.input && beside kind output.kind
    then Some (record { inst = cable.source; place = place_in (ports_of setup cable.source) output; delayed = cable.delayed }) else None

abbrev pub source_of : Setup → PortKind → CableLine → Option Source
source_of setup kind cable = option_and_then (source_at setup kind cable) (port_at setup.decls cable.source cable.output)

-- a cable leads to a port of an instance
abbrev pub leads_to : ℕ → Port → CableLine → Bool
leads_to inst port cable = cable.target == inst && bytes_eq cable.input port.symbol

-- the source of one that does
abbrev pub source_to : Setup → ℕ → Port → CableLine → Option Source
source_to setup inst port cable = if leads_to inst port cable then source_of setup port.kind cable else None

-- those of all cables, in order of their lines
abbrev pub sources_to : Setup → ℕ → Port → List Source
sources_to setup inst port = filter_map (source_to setup inst port) setup.session.cables

-- what is put at a port
abbrev pub input_of : Setup → ℕ → Port → Input
input_of setup inst port =
    if port.input && is_sound port.kind then Sound (sources_to setup inst port)
    else if port.input && is_atom port.kind then Events (sources_to setup inst port) else Still
