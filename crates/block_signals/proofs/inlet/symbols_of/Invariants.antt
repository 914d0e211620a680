use Rattle.std.proofs.Common.{◌≡◌, map, take}
use Rattle.plugin_decl.specs.declared.declaration.Port.{Port}
use Rattle.block_signals.proofs.inlet.symbols_of.Given as goal

abbrev pub invariant-loop-port : goal.invariant-loop-port
invariant-loop-port l = l.symbols ≡ map (λ (port : Port). port.symbol) (take l.port-index l.ports)
