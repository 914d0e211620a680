use Rattle.block_signals.specs.Board.{Board}
use Rattle.block_signals.specs.Inlets.{HoldsInputs}
use Rattle.signal_tests.proofs.tests.messages.many_messages.Given as goal

abbrev pub invariant-loop : goal.invariant-loop
invariant-loop l = (board : Board) × HoldsInputs l.setup board l.inlets
