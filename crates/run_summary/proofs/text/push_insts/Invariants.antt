use Rattle.std.proofs.Common.{◌≡◌, ◌++◌, drop}
use Rattle.run_summary.specs.Parts.{lines_from}
use Rattle.run_summary.proofs.text.push_insts.Given as goal

-- the lines so far, and those of the instances that are left
abbrev pub invariant-loop-inst : goal.invariant-loop-inst
invariant-loop-inst l =
    l.text ++ lines_from l.setup l.tally l.report l.inst (drop l.inst l.setup.session.insts) ≡ l.fn.text ++ lines_from l.setup l.tally l.report 0 l.setup.session.insts
