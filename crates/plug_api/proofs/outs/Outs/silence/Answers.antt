use Rattle.std.proofs.Common.{arith}
use Rattle.std.proofs.lemmas.Grind.{common_steps}
use Rattle.std.proofs.lemmas.List.Edits.{map_over_more}
use Rattle.plug_api.specs.Sound.{hushed}
use Rattle.plug_api.specs.Buffers.{begun}
use Rattle.plug_api.proofs.outs.Outs.silence.Goals as goal

pub loop-block-preserved : goal.loop-block-preserved
loop-block-preserved c = grind (arith, common_steps, map_over_more hushed)

pub loop-forge-preserved : goal.loop-forge-preserved
loop-forge-preserved c = grind (arith, common_steps, map_over_more begun)
