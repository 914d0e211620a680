use Rattle.std.proofs.Common.{◌≡◌, ◌++◌, map, take, drop}
use Rattle.block_signals.proofs.Outs.{begun_outlet}
use Rattle.block_signals.proofs.outlets.Outlets.begin_block.Given as goal

abbrev pub invariant-loop-outlet : goal.invariant-loop-outlet
invariant-loop-outlet l =
    l.outlet-items ≡ map begun_outlet (take l.outlet-index l.initial.outlet-items) ++ drop l.outlet-index l.initial.outlet-items
