use Rattle.std.proofs.Common.{◌≡◌, ◌++◌, map, take, drop}
use Rattle.block_signals.proofs.Taking.{begun_inlet}
use Rattle.block_signals.proofs.inlets.Inlets.begin_block.Given as goal

abbrev pub invariant-loop-inlet : goal.invariant-loop-inlet
invariant-loop-inlet l = l.inlet-items ≡ map begun_inlet (take l.inlet-index l.initial.inlet-items) ++ drop l.inlet-index l.initial.inlet-items
