use Rattle.std.proofs.Common.{◌≡◌, map, take}
use Rattle.lv_base.specs.Number.{gained}
use Rattle.sound_block.proofs.gain.gain_within.Given as goal

-- the samples up to this frame
abbrev pub invariant-loop-frame : goal.invariant-loop-frame
invariant-loop-frame l = take l.frame l.out ≡ map (λ sample. gained sample (record { 0 = l.factor })) (take l.frame l.x)
