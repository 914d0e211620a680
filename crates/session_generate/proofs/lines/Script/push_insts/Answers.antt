use Rattle.std.proofs.Common.{arith, refl}
use Rattle.session_generate.specs.Lines.{inst_line}
use Rattle.session_generate.proofs.Repeated.{one_more, all_steps}
use Rattle.session_generate.proofs.lines.Script.push_insts.Goals as goal

pub loop-inst-init : goal.loop-inst-init
loop-inst-init c = record { each = refl }

pub loop-inst-preserved : goal.loop-inst-preserved
loop-inst-preserved c = one_more inst_line c.args.self.now c.loop-inst.self c.push_inst.new.self c.loop-inst.inst c.loop-inst.invariant c.in_ok-push_inst.ensures

pub returns : goal.returns
returns c = all_steps inst_line c.args.self.now c.loop-inst.self c.loop-inst.inst 16 (omega arith) c.loop-inst.invariant
