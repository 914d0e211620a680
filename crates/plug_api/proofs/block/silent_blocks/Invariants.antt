use Rattle.std.proofs.Common.{◌≡◌, replicate}
use Rattle.plug_api.specs.Sound.{silence}
use Rattle.plug_api.proofs.block.silent_blocks.Given as goal

abbrev pub invariant-loop-i : goal.invariant-loop-i
invariant-loop-i l = l.blocks.items ≡ replicate l.i (silence l.frames)
