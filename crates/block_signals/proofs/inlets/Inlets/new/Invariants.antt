use Rattle.block_signals.proofs.Given.{MadeTo}
use Rattle.block_signals.proofs.inlets.Inlets.new.Given as goal

abbrev pub invariant-loop-inst : goal.invariant-loop-inst
invariant-loop-inst l = MadeTo l.setup l.each.items l.inst
