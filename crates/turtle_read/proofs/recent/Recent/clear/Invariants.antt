use Rattle.std.specs.Prelude.{take}
use Rattle.turtle_read.specs.Recents.{HoldNothing}
use Rattle.turtle_read.proofs.recent.Recent.clear.Given as goal

abbrev pub invariant-loop-slot : goal.invariant-loop-slot
invariant-loop-slot l = HoldNothing (take l.slot-index l.slot-items)
