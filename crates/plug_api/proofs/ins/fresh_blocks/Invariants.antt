use Rattle.std.proofs.Common.{◌≡◌, map, take}
use Rattle.plug_api.specs.Fresh.{fresh_block}
use Rattle.plug_api.proofs.ins.fresh_blocks.Given as goal

-- the blocks of the ports so far
abbrev pub invariant-loop-port : goal.invariant-loop-port
invariant-loop-port l = l.blocks.items ≡ map (fresh_block l.frames) (take l.port-index l.ports)
