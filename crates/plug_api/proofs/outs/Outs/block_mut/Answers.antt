-- The place that is lent is the one that was asked for.
use Rattle.std.proofs.Common.{arith}
use Rattle.std.proofs.lemmas.Grind.{common_steps}
use Rattle.plug_api.proofs.outs.Outs.block_mut.Goals as goal

pub returns : goal.returns
returns c = grind (arith, common_steps)
