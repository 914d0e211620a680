use Rattle.std.proofs.Common.{◌∙◌, arith}
use Rattle.run_summary.proofs.Texts.{lines_more}
use Rattle.run_summary.proofs.text.push_insts.Goals as goal

pub loop-inst-preserved : goal.loop-inst-preserved
loop-inst-preserved c =
    lines_more c.args.setup.now c.args.tally.now c.args.report.now c.args.setup.now.session.insts c.loop-inst.inst c.loop-inst.text c.push_inst.new.text (omega arith) c.in_ok-push_inst.ensures
    ∙ c.loop-inst.invariant
