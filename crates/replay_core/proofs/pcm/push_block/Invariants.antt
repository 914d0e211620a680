use Rattle.std.proofs.Common.{◌≡◌, ◌++◌}
use Rattle.replay_core.specs.Each.{each}
use Rattle.replay_core.specs.Pcm.{frame_bytes}
use Rattle.replay_core.proofs.pcm.push_block.Given as goal

-- the bytes of the frames so far
abbrev pub invariant-loop-frame : goal.invariant-loop-frame
invariant-loop-frame l = l.pcm ≡ l.fn.pcm ++ each l.frame (frame_bytes l.session l.outs.blocks)
