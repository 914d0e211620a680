-- What a setup says of its instances and actions.
use Rattle.std.specs.Prelude.{ℕ, true, false, List, [], Option, slice_get}
use Rattle.std.specs.Option.{option_map_or}
use Rattle.plugin_decl.specs.declared.declaration.Decl.{Decl}
use Rattle.plugin_decl.specs.declared.declaration.Port.{Port}
use Rattle.plugin_decl.specs.MessagePorts.{message_port}
use Rattle.session_script.specs.declared.session.Action.{Action}
use Rattle.graph_order.specs.declared.setup.Setup.{Setup}

-- what an instance declares
abbrev pub decl_of : Setup → ℕ → Option Decl
decl_of setup inst = slice_get setup.decls inst

abbrev pub ports_of : Setup → ℕ → List Port
ports_of setup inst = option_map_or (λ (decl : Decl). decl.ports) (decl_of setup inst) []

-- the port for patch messages to it, and the one on which it answers
abbrev pub patch_port : Setup → ℕ → Option ℕ
patch_port setup inst = message_port true (ports_of setup inst)

abbrev pub reply_port : Setup → ℕ → Option ℕ
reply_port setup inst = message_port false (ports_of setup inst)

-- an action, by its place in the session
abbrev pub action_at : Setup → ℕ → Option Action
action_at setup action = slice_get setup.session.actions action
