use Rattle.std.proofs.Common.{◌≡◌, map, take}
use Rattle.lv_base.specs.Number.{clamped}
use Rattle.sound_block.proofs.sum.finish.Given as goal

-- the samples up to this frame
abbrev pub invariant-loop-frame : goal.invariant-loop-frame
invariant-loop-frame l = take l.frame l.out ≡ map clamped (take l.frame l.acc)
