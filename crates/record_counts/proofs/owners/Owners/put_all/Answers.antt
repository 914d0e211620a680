use Rattle.std.proofs.Common.{◌∙◌}
use Rattle.record_terms.specs.Message.{meaning_of}
use Rattle.record_counts.specs.Step.{step_of}
use Rattle.record_counts.proofs.OwnerLaws.{one_more, below}
use Rattle.record_counts.proofs.owners.Owners.put_all.Goals as goal

pub loop-inst-preserved : goal.loop-inst-preserved
loop-inst-preserved c = record {
  each = λ f table.
      let x = step_of c.args.entry (meaning_of c.args.about) in
      one_more c.args.shape.now x c.loop-inst.inst f c.put.new.self (c.put.ensures.each (below c.args.shape.now x c.loop-inst.inst f) (c.loop-inst.invariant.each f table));
  all = c.put.ensures.all ∙ c.loop-inst.invariant.all;
}
