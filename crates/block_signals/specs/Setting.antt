-- An action that sets a value, and one that changes nothing.
use Rattle.std.specs.Prelude.{◌≡◌, ℕ, ◌⊎◌, List, Some, None}
use Rattle.lv_base.specs.declared.number.Fixed.{Fixed}
use Rattle.plugin_decl.specs.declared.declaration.Port.{Port}
use Rattle.session_script.specs.declared.session.Action.{Action}
use Rattle.session_script.specs.declared.session.Deed.TheVariants.{Set}
use Rattle.graph_order.specs.Ports.{port_at}
use Rattle.graph_order.specs.declared.setup.Setup.{Setup}
use Rattle.session_play.specs.Patch.{message_of}
use Rattle.session_play.specs.Setup.{patch_port}
use Rattle.session_play.specs.Signals.{set_by}
use Rattle.block_signals.specs.declared.inlets.Inlets.{Inlets}
use Rattle.block_signals.specs.Board.{Board, with_action}
use Rattle.block_signals.specs.Inlets.{HoldsInputs}

-- it sets this value at this port of an instance
pub record SetsAt (setup : Setup) (inst port : ℕ) (value : Fixed) (action : Action) : Type 0 where
  pub symbol : List ℕ
  pub at : Port
  pub of : action.inst ≡ inst
  pub deed : action.deed ≡ Set symbol value
  pub named : port_at setup.decls inst symbol ≡ Some at
  pub index : at.index ≡ port

-- it sets no value, and sends no message, or one to an instance that has no port for messages
pub record ChangesNothing (setup : Setup) (urids : List (List ℕ)) (action : Action) : Type 0 where
  pub value : (port : Port) → set_by port action.deed ≡ None
  pub message : (message_of urids action.deed ≡ None) ⊎ (patch_port setup action.inst ≡ None)

-- what is held stays as it is then
abbrev pub NothingIsChanged : Type 0
NothingIsChanged = (setup : Setup) (board : Board) (urids : List (List ℕ)) (action : Action) (inlets : Inlets) → ChangesNothing setup urids action
    → HoldsInputs setup board inlets → HoldsInputs setup (with_action urids board action) inlets
