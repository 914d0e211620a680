use Rattle.std.proofs.Common.{◌≡◌, ◌++◌, take, drop}
use Rattle.std.specs.Prelude.{map}
use Rattle.audio_api.specs.Sound.{hushed}
use Rattle.audio_api.proofs.outs.Outs.silence.Given as goal

-- the blocks so far are silent, and the others as before
abbrev pub invariant-loop-block : goal.invariant-loop-block
invariant-loop-block l =
    l.block-items ≡ map hushed (take l.block-index l.fn.self.blocks) ++ drop l.block-index l.fn.self.blocks
