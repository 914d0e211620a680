use Rattle.std.proofs.Common.{sym, ◌∙◌}
use Rattle.sound_block.specs.Block.{added}
use Rattle.block_signals.specs.Mixing.{heard}
use Rattle.block_signals.proofs.Mixes.{sums_more}
use Rattle.block_signals.proofs.mixing.sum_up.Goals as goal

pub loop-source-preserved : goal.loop-source-preserved
loop-source-preserved c = record {
  sums = c.add.ensures.sums ∙ (λ t. added (c.loop-source.invariant.sums t) (c.heard.ensures t))
      ∙ sym (sums_more _ (heard c.args.outlets.now) c.args.sources.now c.loop-source.source-index _ c.loop-source-test.true);
  small = c.add.ensures.count _ c.loop-source.invariant.small;
}
