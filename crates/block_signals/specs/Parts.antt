-- What outputs show hangs on what runs gave alone, and what inputs hold on the values and the messages alone.
use Rattle.std.specs.Prelude.{◌≡◌}
use Rattle.graph_order.specs.declared.setup.Setup.{Setup}
use Rattle.block_signals.specs.declared.inlets.Inlets.{Inlets}
use Rattle.block_signals.specs.declared.outlets.Outlets.{Outlets}
use Rattle.block_signals.specs.Board.{Board}
use Rattle.block_signals.specs.Inlets.{HoldsInputs}
use Rattle.block_signals.specs.Outlets.{ShowsOutputs}

abbrev pub OutputsStay : Type 0
OutputsStay = (setup : Setup) (board other : Board) (outlets : Outlets) → other.now ≡ board.now → other.before ≡ board.before
    → ShowsOutputs setup board outlets → ShowsOutputs setup other outlets

abbrev pub ValuesStay : Type 0
ValuesStay = (setup : Setup) (board other : Board) (inlets : Inlets) → other.values ≡ board.values → other.messages ≡ board.messages
    → HoldsInputs setup board inlets → HoldsInputs setup other inlets
