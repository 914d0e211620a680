use Rattle.std.proofs.Common.{[], ◌∷◌, refl, ap, ◌∙◌}
use Rattle.step_law.specs.declared.call.Call.TheVariants as calls
use Rattle.step_law.specs.Actor.{actor_at}
use Rattle.step_law.specs.Entry.{begin_of, end_of}
use Rattle.step_record.specs.Log.{Logged}
use Rattle.record_law.specs.Message.Message.{nothing}
use Rattle.judged_log.specs.Followed.{entries_of}
use Rattle.session_play.specs.Value.{changed}
use Rattle.told_calls.proofs.Calls.{quiet_stands, front_plays, not_run, told_after}
use Rattle.told_calls.proofs.fronts.deactivate.Goals as goal

pub returns-clause-goes_on : goal.returns-clause-goes_on
returns-clause-goes_on g c run names k of stands needs =
    let old = c.args.log.now.log.items in
    let actor = actor_at c.args.actor in
    let new = c.judge_unasked.new.log.log.items in
    let inst = c.args.front.inst in
    let after = g.C.Front.Front.meaning.deactivate c.args.front.part in
    quiet_stands run names k c.args.shape.now (entries_of old) (entries_of new) c.args.actor calls.Deactivate inst nothing (changed after) of stands
    (ap (λ (it : Logged). entries_of it.items) c.in_ok-judge_unasked.ensures.log ∙ c.deactivate-made.ensures.log)
    (told_after c.args.shape.now old c.deactivate-made.new.log.items c.len-from.result nothing (begin_of actor calls.Deactivate inst ∷ end_of actor calls.Deactivate inst ∷ []) c.len-from.ensures c.deactivate-made.ensures.log
    c.in_ok-judge_unasked.ensures.told)
    (front_plays _ _ run.fronts.deactivate (k.fronts inst) c.args.front.part after needs.has.is_front (ap (λ it. it.deactivate c.args.front.part) needs.has.fronts)) needs.silent (not_run calls.Deactivate refl)
