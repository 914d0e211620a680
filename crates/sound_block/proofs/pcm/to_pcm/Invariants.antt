use Rattle.std.proofs.Common.{◌≡◌, ◌*◌, take, flat_map}
use Rattle.sound_block.specs.Block.{sample_bytes}
use Rattle.sound_block.proofs.pcm.to_pcm.Given as goal

-- the bytes of the samples up to this frame
abbrev pub invariant-loop-frame : goal.invariant-loop-frame
invariant-loop-frame l = take (2 * l.frame) l.out ≡ flat_map sample_bytes (take l.frame l.x)
