use Rattle.std.proofs.Common.{◌≡◌, take}
use Rattle.std.specs.Prelude.{filter_map}
use Rattle.block_signals.specs.Sources as spec
use Rattle.block_signals.proofs.source.sources_to.Given as goal

abbrev pub invariant-loop-cable : goal.invariant-loop-cable
invariant-loop-cable l = l.sources ≡ filter_map (spec.source_to l.setup l.inst l.port) (take l.cable-index l.cable-items)
