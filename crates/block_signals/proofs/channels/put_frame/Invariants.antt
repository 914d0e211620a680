use Rattle.std.proofs.Common.{◌≡◌, ◌+◌, ◌*◌, ◌++◌, map, take}
use Rattle.play_outcome.specs.Pcm.{frame_bytes}
use Rattle.block_signals.specs.Channels.{channel_heard}
use Rattle.block_signals.proofs.channels.put_frame.Given as goal

abbrev pub invariant-loop-k : goal.invariant-loop-k
invariant-loop-k l =
    take (l.from + 2 * l.k) l.out ≡ take l.from l.initial.out ++ frame_bytes (map (channel_heard l.outlets) (take l.k l.channels)) l.frame
