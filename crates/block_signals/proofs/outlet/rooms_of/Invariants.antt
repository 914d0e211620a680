use Rattle.std.proofs.Common.{◌≡◌, map, take}
use Rattle.plugin_decl.specs.declared.declaration.Port.{Port}
use Rattle.plug_api.specs.Roles as roles
use Rattle.block_signals.specs.Places.{outputs_among}
use Rattle.block_signals.proofs.outlet.rooms_of.Given as goal

abbrev pub invariant-loop-port : goal.invariant-loop-port
invariant-loop-port l = l.rooms.items ≡ map (λ (port : Port). port.room) (outputs_among roles.is_atom (take l.port-index l.ports))
