use Rattle.std.proofs.Common.{◌≡◌, map, take}
use Rattle.plug_api.specs.Fresh.{fresh_forge}
use Rattle.plug_api.proofs.ins.fresh_forges.Given as goal

-- the forges of the ports so far
abbrev pub invariant-loop-port : goal.invariant-loop-port
invariant-loop-port l = l.forges.items ≡ map fresh_forge (take l.port-index l.ports)
