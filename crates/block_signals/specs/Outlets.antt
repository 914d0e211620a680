-- What the outputs of a setup's instances gave, as it is kept.
use Rattle.std.specs.Prelude.{◌≡◌, ℕ, List, [], length, slice_get, Option, Some, unwrap_or}
use Rattle.plugin_decl.specs.declared.declaration.Port.{Port}
use Rattle.graph_order.specs.declared.setup.Setup.{Setup}
use Rattle.plug_api.specs.Buffers.{Left}
use Rattle.plug_api.specs.Inputs.{Outputs}
use Rattle.plug_api.specs.Running.{AreOutputs}
use Rattle.session_play.specs.Setup.{ports_of}
use Rattle.block_signals.specs.declared.outlet.Outlet.{Outlet}
use Rattle.block_signals.specs.declared.outlets.Outlets.{Outlets}
use Rattle.block_signals.specs.Board.{Board}
use Rattle.block_signals.specs.Places.{outs_after}

-- the outputs are those after a run that gave this, if there was one
pub record Show (frames : ℕ) (ports : List Port) (given : Option Outputs) (outs : Left) : Type 0 where
  pub fit : AreOutputs ports frames (unwrap_or given [])
  pub are : outs ≡ outs_after frames ports given

-- an instance's outputs show what is known of it, in this block and in the one before
pub record ShowsInstance (setup : Setup) (board : Board) (inst : ℕ) (outlet : Outlet) : Type 0 where
  pub now : Show setup.session.block (ports_of setup inst) (board.now inst) outlet.now
  pub before : Show setup.session.block (ports_of setup inst) (board.before inst) outlet.before

-- those of all instances
pub record ShowsOutputs (setup : Setup) (board : Board) (outlets : Outlets) : Type 0 where
  pub all : length outlets.each.items ≡ length setup.decls
  pub shown : (inst : ℕ) (outlet : Outlet) → slice_get outlets.each.items inst ≡ Some outlet → ShowsInstance setup board inst outlet
