-- The rules that each line of a session keeps to, seen from the declarations of its instances.
use Rattle.std.specs.Prelude.{ℕ, Bool, true, false, not, ◌&&◌, if◌then◌else◌, List, find, Option, None, Some, is_none, is_some, slice_get, option_map, option_and_then}
use Rattle.std.specs.Option.{option_or}
use Rattle.plugin_decl.specs.declared.declaration.Decl.{Decl}
use Rattle.plugin_decl.specs.declared.declaration.Port.{Port}
use Rattle.plugin_decl.specs.MessagePorts.{message_port}
use Rattle.session_script.specs.declared.session.Session.{Session}
use Rattle.session_script.specs.declared.session.SetLine.{SetLine}
use Rattle.session_script.specs.declared.session.CableLine.{CableLine}
use Rattle.session_script.specs.declared.session.OutLine.{OutLine}
use Rattle.session_script.specs.declared.session.Action.{Action}
use Rattle.session_script.specs.declared.session.Deed.{Deed}
use Rattle.session_script.specs.declared.session.Deed.TheVariants.{Set, PatchFixed, PatchInt, PatchGet, Save, Restore}
use Rattle.graph_order.specs.declared.lines.LineRule.{LineRule}
use Rattle.graph_order.specs.declared.lines.LineRule.TheVariants.{NoPort, Direction, Kind, NoPatch, NoState}
use Rattle.graph_order.specs.declared.lines.Broken.{Broken}
use Rattle.graph_order.specs.Ports.{port_at, is_control, is_signal, fits}

-- the first rule that is broken, of a direction and a kind
abbrev pub direction_then_kind : Bool → Bool → Option LineRule
direction_then_kind false kind = Some Direction
direction_then_kind true false = Some Kind
direction_then_kind true true = None

-- a value is set at a control input
abbrev pub control_rule : Option Port → Option LineRule
control_rule None = Some NoPort
control_rule (Some port) = direction_then_kind port.input (is_control port.kind)

-- what is heard is an audio or CV output
abbrev pub channel_rule : Option Port → Option LineRule
channel_rule None = Some NoPort
channel_rule (Some port) = direction_then_kind (not port.input) (is_signal port.kind)

-- a cable leads from an output to an input of the same kind
abbrev pub cable_rule : Option Port → Option Port → Option LineRule
cable_rule None input = Some NoPort
cable_rule (Some output) None = Some NoPort
cable_rule (Some output) (Some input) = direction_then_kind (not output.input && input.input) (fits output.kind input.kind)

-- a message goes to an instance with a port for it
abbrev pub patch_rule : Option Decl → Option LineRule
patch_rule decl = if is_none (option_and_then (λ (one : Decl). message_port true one.ports) decl) then Some NoPatch else None

-- a state is that of an instance with state:interface
abbrev pub state_rule : Option Decl → Option LineRule
state_rule None = Some NoState
state_rule (Some decl) = if decl.state then None else Some NoState

-- the first rule that a deed breaks
abbrev pub deed_rule : List Decl → ℕ → Deed → Option LineRule
deed_rule decls inst (Set symbol value) = control_rule (port_at decls inst symbol)
deed_rule decls inst (PatchFixed property value) = patch_rule (slice_get decls inst)
deed_rule decls inst (PatchInt property value) = patch_rule (slice_get decls inst)
deed_rule decls inst (PatchGet property) = patch_rule (slice_get decls inst)
deed_rule decls inst Save = state_rule (slice_get decls inst)
deed_rule decls inst (Restore path place) = state_rule (slice_get decls inst)

-- a line breaks a rule
abbrev pub broken_at : ℕ → Option LineRule → Option Broken
broken_at line rule = option_map (λ (one : LineRule). record { line = line; rule = one }) rule

abbrev pub broken_set : List Decl → SetLine → Option Broken
broken_set decls set = broken_at set.line (control_rule (port_at decls set.inst set.symbol))

abbrev pub broken_cable : List Decl → CableLine → Option Broken
broken_cable decls cable = broken_at cable.line (cable_rule (port_at decls cable.source cable.output) (port_at decls cable.target cable.input))

abbrev pub broken_out : List Decl → OutLine → Option Broken
broken_out decls out = broken_at out.line (channel_rule (port_at decls out.inst out.symbol))

abbrev pub broken_action : List Decl → Action → Option Broken
broken_action decls action = broken_at action.line (deed_rule decls action.inst action.deed)

-- the first of some lines that breaks a rule
abbrev pub first_in : {L : Type 0} → (L → Option Broken) → List L → Option Broken
first_in broken lines = option_and_then broken (find (λ line. is_some (broken line)) lines)

-- the first line of a session that breaks a rule, and the first rule that it breaks: the values, the cables, the channels and the
-- actions in this order, which is that of a script
unfoldable pub first_broken : Session → List Decl → Option Broken
first_broken session decls =
    option_or (first_in (broken_set decls) session.sets)
    (option_or (first_in (broken_cable decls) session.cables)
    (option_or (first_in (broken_out decls) session.outs)
    (first_in (broken_action decls) session.actions)))
