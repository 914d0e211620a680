use Rattle.std.proofs.Common.{◌≡◌, take}
use Rattle.instance_class.proofs.made.copy_ports.Given as goal

-- the copies of the ports so far
abbrev pub invariant-loop-port : goal.invariant-loop-port
invariant-loop-port l = l.copy ≡ take l.port-index l.ports
