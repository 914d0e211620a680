use Rattle.std.proofs.Common.{◌≡◌, ◌++◌, map, take, drop}
use Rattle.plugin_decl.specs.declared.declaration.Port.{Port}
use Rattle.block_signals.proofs.inlet.begin_values.Given as goal

abbrev pub invariant-loop-i : goal.invariant-loop-i
invariant-loop-i l = l.ins ≡ record l.initial.ins { values = map (λ (port : Port). port.first) (take l.i l.ports) ++ drop l.i l.initial.ins.values }
