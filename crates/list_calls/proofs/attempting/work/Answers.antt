use Rattle.std.proofs.Common.{rules, ap, subst₂}
use Rattle.step_law.specs.declared.call.Call.TheVariants as calls
use Rattle.list_calls.proofs.Attempts.{leaves_lent}
use Rattle.list_calls.specs.Leaving.{Leaves}
use Rattle.list_calls.proofs.attempting.work.Goals as goal

pub returns-clause-worked : goal.returns-clause-worked
returns-clause-worked g c =
    let worked = c.work.ensures.worked in
    let answer = c.new-answer.result in
    let lent = c.new-answer.ensures in
    let then = c.work.new.answer in
    let left : Leaves c.args.caller calls.Work c.args.back.now.inst worked.0 c.args.responses.now.items c.args.log.now then.list.now.items then.log.now =
    leaves_lent c.args.caller calls.Work c.args.back.now.inst answer then worked.0 c.args.responses.now.items c.args.log.now lent.actor lent.ring lent.room
    (ap (λ it. it.now.items) lent.list) (ap (λ it. it.now) lent.log) worked.1 in (
      worked.0,
      worked.2,
      subst₂ (λ w l. Leaves c.args.caller calls.Work c.args.back.now.inst worked.0 c.args.responses.now.items c.args.log.now w l) (search rules) (search rules) left,
    )
