use Rattle.std.proofs.Common.{◌≡◌, map, take}
use Rattle.plugin_decl.specs.Ports.{index_of}
use Rattle.plugin_decl.proofs.indexes.indexes.Given as goal

-- the indexes of the ports so far
abbrev pub invariant-loop-port : goal.invariant-loop-port
invariant-loop-port l = l.indexes ≡ map (index_of l.store) (take l.port-index l.ports)
