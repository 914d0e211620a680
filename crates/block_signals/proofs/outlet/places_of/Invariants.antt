use Rattle.std.proofs.Common.{◌≡◌, map, take}
use Rattle.block_signals.specs.Places as places
use Rattle.block_signals.proofs.outlet.places_of.Given as goal

abbrev pub invariant-loop-port : goal.invariant-loop-port
invariant-loop-port l = l.of.items ≡ map (places.place_in l.ports) (take l.port-index l.ports)
