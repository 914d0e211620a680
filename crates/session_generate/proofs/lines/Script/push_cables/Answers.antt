use Rattle.std.proofs.Common.{arith, refl}
use Rattle.session_generate.specs.Lines.{cable_lines}
use Rattle.session_generate.proofs.Repeated.{one_more, all_steps}
use Rattle.session_generate.proofs.lines.Script.push_cables.Goals as goal

pub loop-inst-init : goal.loop-inst-init
loop-inst-init c = record { each = refl }

pub loop-inst-preserved : goal.loop-inst-preserved
loop-inst-preserved c = one_more cable_lines c.args.self.now c.loop-inst.self c.push_cables_to.new.self c.loop-inst.inst c.loop-inst.invariant c.in_ok-push_cables_to.ensures

pub returns : goal.returns
returns c = all_steps cable_lines c.args.self.now c.loop-inst.self c.loop-inst.inst 16 (omega arith) c.loop-inst.invariant
