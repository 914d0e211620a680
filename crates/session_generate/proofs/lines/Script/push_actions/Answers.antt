use Rattle.std.proofs.Common.{arith, refl}
use Rattle.session_generate.specs.Lines.{action_line}
use Rattle.session_generate.proofs.Repeated.{one_more, all_steps}
use Rattle.session_generate.proofs.lines.Script.push_actions.Goals as goal

pub loop-number-init : goal.loop-number-init
loop-number-init c = record { each = refl }

pub loop-number-preserved : goal.loop-number-preserved
loop-number-preserved c = one_more action_line c.args.self.now c.loop-number.self c.push_action.new.self c.loop-number.number c.loop-number.invariant c.in_ok-push_action.ensures

pub returns : goal.returns
returns c = all_steps action_line c.args.self.now c.loop-number.self c.loop-number.number 64 (omega arith) c.loop-number.invariant
