use Rattle.std.proofs.Common.{arith}
use Rattle.std.proofs.lemmas.Grind.{common_steps}
use Rattle.std.proofs.lemmas.List.Edits.{map_over_more}
use Rattle.audio_api.specs.Sound.{hushed}
use Rattle.audio_api.proofs.Hushed.{map-hushed}
use Rattle.audio_api.proofs.outs.Outs.silence.Goals as goal

pub loop-block-preserved : goal.loop-block-preserved
loop-block-preserved c = grind (arith, common_steps, map_over_more hushed)

pub returns-clause-as_new : goal.returns-clause-as_new
returns-clause-as_new c =
    λ frames whole. grind (arith, common_steps, map-hushed frames c.args.self.now.blocks whole)
