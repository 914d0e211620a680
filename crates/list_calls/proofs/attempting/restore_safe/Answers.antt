use Rattle.std.proofs.Common.{rules, ap, subst₂}
use Rattle.step_law.specs.declared.call.Call.TheVariants as calls
use Rattle.list_calls.proofs.Attempts.{leaves_lent}
use Rattle.list_calls.specs.Leaving.{Leaves}
use Rattle.list_calls.proofs.attempting.restore_safe.Goals as goal

pub returns-clause-restored : goal.returns-clause-restored
returns-clause-restored g c =
    let restored = c.restore_safe.ensures.restored in
    let sched = c.new-sched.result in
    let lent = c.new-sched.ensures in
    let then = c.restore_safe.new.sched in
    let left : Leaves c.args.caller calls.RestoreSafe c.args.back.now.inst restored.0 c.args.jobs.now.items c.args.log.now then.list.now.items then.log.now =
    leaves_lent c.args.caller calls.RestoreSafe c.args.back.now.inst sched then restored.0 c.args.jobs.now.items c.args.log.now lent.actor lent.ring lent.room
    (ap (λ it. it.now.items) lent.list) (ap (λ it. it.now) lent.log) restored.1 in (
      restored.0,
      restored.2,
      subst₂ (λ w l. Leaves c.args.caller calls.RestoreSafe c.args.back.now.inst restored.0 c.args.jobs.now.items c.args.log.now w l) (search rules) (search rules) left,
    )
