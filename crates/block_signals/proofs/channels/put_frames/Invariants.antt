use Rattle.std.proofs.Common.{◌≡◌, ◌*◌, length, map, take, flat_map}
use Rattle.std.specs.List.{range_with_len}
use Rattle.play_outcome.specs.Pcm.{frame_bytes}
use Rattle.block_signals.specs.Channels.{channel_heard}
use Rattle.block_signals.proofs.channels.put_frames.Given as goal

abbrev pub invariant-loop-frame : goal.invariant-loop-frame
invariant-loop-frame l = record {
  at : l.at ≡ 2 * length l.channels * l.frame;
  put : take l.at l.out ≡ flat_map (frame_bytes (map (channel_heard l.outlets) l.channels)) (range_with_len 0 l.frame);
}
