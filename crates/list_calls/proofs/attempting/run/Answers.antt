use Rattle.std.proofs.Common.{rules, ap, subst₂}
use Rattle.step_law.specs.declared.call.Call.TheVariants as calls
use Rattle.list_calls.proofs.Attempts.{leaves_lent}
use Rattle.list_calls.specs.Leaving.{Leaves}
use Rattle.list_calls.proofs.attempting.run.Goals as goal

pub returns-clause-ran : goal.returns-clause-ran
returns-clause-ran g c =
    let ran = c.run.ensures.ran in
    let sched = c.new-sched.result in
    let lent = c.new-sched.ensures in
    let then = c.run.new.sched in
    let left : Leaves c.args.caller calls.Run c.args.front.now.inst ran.0 c.args.jobs.now.items c.args.log.now then.list.now.items then.log.now =
    leaves_lent c.args.caller calls.Run c.args.front.now.inst sched then ran.0 c.args.jobs.now.items c.args.log.now lent.actor lent.ring lent.room
    (ap (λ it. it.now.items) lent.list) (ap (λ it. it.now) lent.log) ran.2 in (
      ran.0,
      ran.1,
      ran.3,
      ran.4,
      ran.5,
      subst₂ (λ w l. Leaves c.args.caller calls.Run c.args.front.now.inst ran.0 c.args.jobs.now.items c.args.log.now w l) (search rules) (search rules) left,
    )
