use Rattle.std.proofs.Common.{◌≡◌, ◌≤◌, false, count_by, below_more, arith}
use Rattle.std.specs.Prelude.{nat_lt}
use Rattle.std.proofs.lemmas.Bool.{le-ltb}
use Rattle.plugin_decl.specs.Declaration.{is_index}
use Rattle.plugin_decl.proofs.IndexRules.{never-repeated}
use Rattle.plugin_decl.proofs.indexes.first_repeated.Goals as goal

pub loop-i-preserved : goal.loop-i-preserved
loop-i-preserved c =
    let once : count_by (is_index c.loop-i.i) c.args.indexes.now ≤ 1 = omega arith in
    below_more (λ k. nat_lt 1 (count_by (is_index k) c.args.indexes.now) ≡ false) c.loop-i.i c.loop-i.invariant (le-ltb 1 _ once)

pub returns : goal.returns
returns c = never-repeated c.args.indexes.now c.requires (λ k h. c.loop-i.invariant k (omega arith))
