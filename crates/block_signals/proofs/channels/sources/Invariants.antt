use Rattle.std.proofs.Common.{◌≡◌, map, take}
use Rattle.block_signals.specs.Channels.{channel_of}
use Rattle.block_signals.proofs.channels.sources.Given as goal

abbrev pub invariant-loop-out : goal.invariant-loop-out
invariant-loop-out l = l.each ≡ map (channel_of l.setup) (take l.out-index l.out-items)
