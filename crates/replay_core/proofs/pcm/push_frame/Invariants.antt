use Rattle.std.proofs.Common.{◌≡◌, ◌++◌, take}
use Rattle.replay_core.specs.Pcm.{frame_bytes}
use Rattle.replay_core.proofs.pcm.push_frame.Given as goal

-- the bytes of the channels so far
abbrev pub invariant-loop-out : goal.invariant-loop-out
invariant-loop-out l =
    l.pcm ≡ l.fn.pcm ++ frame_bytes (record l.session { outs = take l.out-index l.out-items }) l.outs.blocks l.frame
