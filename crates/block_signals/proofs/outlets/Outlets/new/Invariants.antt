use Rattle.std.proofs.Common.{◌≡◌, map, take}
use Rattle.block_signals.proofs.Shown.{quiet_outlet}
use Rattle.block_signals.proofs.outlets.Outlets.new.Given as goal

abbrev pub invariant-loop-decl : goal.invariant-loop-decl
invariant-loop-decl l = l.each.items ≡ map (quiet_outlet l.frames) (take l.decl-index l.decl-items)
