use Rattle.std.proofs.Common.{◌≡◌, map, take}
use Rattle.block_signals.specs.Sources as spec
use Rattle.block_signals.proofs.source.inputs_of.Given as goal

abbrev pub invariant-loop-port : goal.invariant-loop-port
invariant-loop-port l = l.inputs ≡ map (spec.input_of l.setup l.inst) (take l.port-index l.ports)
