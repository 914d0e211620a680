use Rattle.std.proofs.Common.{◌≡◌, map, take}
use Rattle.plug_api.specs.Buffers.{empty_forge}
use Rattle.plug_api.proofs.outs.empty_forges.Given as goal

-- the forges with the rooms so far
abbrev pub invariant-loop-room : goal.invariant-loop-room
invariant-loop-room l = l.forges.items ≡ map empty_forge (take l.room-index l.rooms)
