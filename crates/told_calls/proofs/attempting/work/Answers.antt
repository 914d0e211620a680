use Rattle.std.proofs.Common.{ℕ, List, refl, ap, subst₂, sym, ◌∙◌}
use Rattle.interaction.specs.Attempts.{Plays}
use Rattle.step_law.specs.declared.call.Call.TheVariants as calls
use Rattle.step_law.specs.Actor.{actor_at}
use Rattle.step_record.specs.Log.{Logged}
use Rattle.session_play.specs.Value.{worked}
use Rattle.plug_api.specs.Meaning.{BackMeaning}
use Rattle.record_law.specs.Message.Message.{nothing}
use Rattle.judged_log.specs.Followed.{entries_of}
use Rattle.list_calls.specs.Leaving.{entries_by, told_of}
use Rattle.told_calls.proofs.Calls.{trying_stands, back_plays, not_run, told_after}
use Rattle.told_calls.proofs.attempting.work.Goals as goal

pub returns-clause-worked : goal.returns-clause-worked
returns-clause-worked g c =
    let old = c.args.log.now.log.items in
    let caller = c.args.caller in
    let inst = c.args.back.now.inst in
    let part = c.args.back.now.part in
    let did = c.work-status.ensures.worked in
    let left = did.2 in
    let told = told_of caller did.0 in
    let entries = entries_by caller calls.Work inst told in
    let after = c.work-status.new.back.part in
    let status = c.work-status.result in (
      told,
      left.waits,
      λ run names k of stands needs.
          trying_stands run names k c.args.shape.now (entries_of old) (entries_of c.judge_unasked.new.log.log.items) caller calls.Work inst nothing (worked after status) did.0 of stands
          (ap (λ (it : Logged). entries_of it.items) c.in_ok-judge_unasked.ensures.log ∙ left.entries)
          (told_after c.args.shape.now old c.work-status.new.log.items c.len-from.result nothing entries c.len-from.ensures left.entries c.in_ok-judge_unasked.ensures.told)
          (back_plays _ _ (λ back. run.backs.work back (k.taken (actor_at caller.actor))) (k.backs inst) part after status did.0 needs.has.is_back
          (subst₂ (λ (m : BackMeaning _) (body : List ℕ). Plays (m.work part body) did.0 (after, status)) (sym needs.has.backs) (sym needs.took) did.1))
          needs.working left.answered left.refused needs.silent (λ is. absurd (not_run calls.Work refl is)),
    )
