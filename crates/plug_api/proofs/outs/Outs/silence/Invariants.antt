use Rattle.std.proofs.Common.{◌≡◌, ◌++◌, take, drop}
use Rattle.std.specs.Prelude.{map}
use Rattle.plug_api.specs.Sound.{hushed}
use Rattle.plug_api.specs.Buffers.{begun}
use Rattle.plug_api.proofs.outs.Outs.silence.Given as goal

-- the blocks so far are silent, and the others as before
abbrev pub invariant-loop-block : goal.invariant-loop-block
invariant-loop-block l =
    l.block-items ≡ map hushed (take l.block-index l.fn.self.blocks) ++ drop l.block-index l.fn.self.blocks

-- the forges so far are begun, and the others as before
abbrev pub invariant-loop-forge : goal.invariant-loop-forge
invariant-loop-forge l =
    l.forge-items ≡ map begun (take l.forge-index l.fn.self.forges) ++ drop l.forge-index l.fn.self.forges
