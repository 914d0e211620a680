use Rattle.std.proofs.Common.{◌≡◌, ◌++◌, map, take}
use Rattle.plugin_decl.specs.PortFacts.{breaches_of}
use Rattle.plugin_decl.specs.Ports.{port_of}
use Rattle.plugin_decl.proofs.reader.push_ports.Given as goal

-- what is declared of the ports so far, and which rules they break
abbrev pub invariant-loop-node : goal.invariant-loop-node
invariant-loop-node l =
    (l.ports ≡ l.initial.ports ++ map (port_of l.store) (take l.node-index l.nodes))
    × (l.breaches ≡ l.initial.breaches ++ map (breaches_of l.store) (take l.node-index l.nodes))
