-- What a run finds among the outputs, and what it leaves there.
use Rattle.std.specs.Prelude.{◌≡◌, ℕ, ◌<◌, length, None}
use Rattle.graph_order.specs.declared.setup.Setup.{Setup}
use Rattle.plug_api.specs.Inputs.{Outputs}
use Rattle.plug_api.specs.Running.{with_outputs, AreOutputs}
use Rattle.session_play.specs.Setup.{ports_of}
use Rattle.block_signals.specs.declared.outlets.Outlets.{Outlets}
use Rattle.block_signals.specs.Board.{Board, with_run}
use Rattle.block_signals.specs.Lending.{now_at, with_now}
use Rattle.block_signals.specs.Outlets.{ShowsOutputs}
use Rattle.block_signals.specs.Places.{places_of, quiet_outs}

-- an instance that didn't run in this block has quiet outputs
abbrev pub NotRunIsQuiet : Type 0
NotRunIsQuiet = (setup : Setup) (board : Board) (outlets : Outlets) (inst : ℕ) → ShowsOutputs setup board outlets → inst < length outlets.each.items
    → board.now inst ≡ None → now_at outlets inst ≡ quiet_outs setup.session.block (ports_of setup inst)

-- once its run wrote its outputs there, they show what it gave
abbrev pub RunIsShown : Type 0
RunIsShown = (setup : Setup) (board : Board) (outlets : Outlets) (inst : ℕ) (outputs : Outputs) → ShowsOutputs setup board outlets
    → inst < length outlets.each.items → board.now inst ≡ None → AreOutputs (ports_of setup inst) setup.session.block outputs
    → ShowsOutputs setup (with_run board inst outputs)
    (with_now outlets inst (with_outputs (places_of (ports_of setup inst)) (now_at outlets inst) outputs))
