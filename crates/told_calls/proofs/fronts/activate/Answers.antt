use Rattle.std.proofs.Common.{[], ◌∷◌, refl, ap, ◌∙◌}
use Rattle.step_law.specs.declared.call.Call.TheVariants as calls
use Rattle.step_law.specs.Actor.{actor_at}
use Rattle.step_law.specs.Entry.{begin_of, end_of}
use Rattle.step_record.specs.Log.{Logged}
use Rattle.record_law.specs.Message.Message.{nothing}
use Rattle.judged_log.specs.Followed.{entries_of}
use Rattle.session_play.specs.Value.{changed}
use Rattle.told_calls.proofs.Calls.{quiet_stands, front_plays, not_run, told_after}
use Rattle.told_calls.proofs.fronts.activate.Goals as goal

pub returns-clause-goes_on : goal.returns-clause-goes_on
returns-clause-goes_on g c run names k of stands needs =
    let old = c.args.log.now.log.items in
    let actor = actor_at c.args.actor in
    let new = c.judge_unasked.new.log.log.items in
    let inst = c.args.made.inst in
    let after = g.C.Front.Front.meaning.activate c.args.made.front in
    quiet_stands run names k c.args.shape.now (entries_of old) (entries_of new) c.args.actor calls.Activate inst nothing (changed after) of stands
    (ap (λ (it : Logged). entries_of it.items) c.in_ok-judge_unasked.ensures.log ∙ c.activate-parts.ensures.log)
    (told_after c.args.shape.now old c.activate-parts.new.log.items c.len-from.result nothing (begin_of actor calls.Activate inst ∷ end_of actor calls.Activate inst ∷ []) c.len-from.ensures c.activate-parts.ensures.log
    c.in_ok-judge_unasked.ensures.told)
    (front_plays _ _ run.fronts.activate (k.fronts inst) c.args.made.front after needs.has.is_front (ap (λ it. it.activate c.args.made.front) needs.has.fronts)) needs.silent (not_run calls.Activate refl)
