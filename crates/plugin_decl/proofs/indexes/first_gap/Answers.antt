use Rattle.std.proofs.Common.{arith}
use Rattle.plugin_decl.proofs.IndexRules.{no_gaps}
use Rattle.plugin_decl.proofs.indexes.first_gap.Goals as goal

pub returns : goal.returns
returns c = no_gaps c.args.indexes.now c.min-i-end.result (omega arith) c.requires (λ k h. c.loop-i.invariant k (omega arith))
