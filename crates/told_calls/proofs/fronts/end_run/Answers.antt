use Rattle.std.proofs.Common.{[], ◌∷◌, refl, sym, ap, ◌∙◌}
use Rattle.step_law.specs.declared.call.Call.TheVariants as calls
use Rattle.step_law.specs.Actor.{actor_at}
use Rattle.step_law.specs.Entry.{begin_of, end_of}
use Rattle.step_record.specs.Log.{Logged}
use Rattle.record_law.specs.Message.Message.{nothing}
use Rattle.judged_log.specs.Followed.{entries_of}
use Rattle.session_play.specs.Value.{changed}
use Rattle.told_calls.proofs.Calls.{quiet_stands, front_plays, not_run, on_ok, told_after}
use Rattle.told_calls.proofs.fronts.end_run.Goals as goal

pub returns-clause-goes_on : goal.returns-clause-goes_on
returns-clause-goes_on g c =
    let old = c.args.log.now.log.items in
    let actor = actor_at c.args.actor in
    let new = c.judge_unasked.new.log.log.items in
    let inst = c.args.front.now.inst in
    let goes = ap (λ (it : Logged). entries_of it.items) c.judge_unasked.ensures.log ∙ c.end_run.ensures.log in
    on_ok c.judge_unasked.result
    (λ told run names k of stands needs.
    quiet_stands run names k c.args.shape.now (entries_of old) (entries_of new) c.args.actor calls.EndRun inst nothing (changed c.end_run.new.front.part) of stands goes
    (told_after c.args.shape.now old c.end_run.new.log.items c.len-from.result nothing (begin_of actor calls.EndRun inst ∷ end_of actor calls.EndRun inst ∷ []) c.len-from.ensures c.end_run.ensures.log told)
    (front_plays _ _ run.fronts.end_run (k.fronts inst) c.args.front.now.part c.end_run.new.front.part needs.has.is_front
    (ap (λ it. it.end_run c.args.front.now.part) needs.has.fronts ∙ sym (ap (λ it. it.part) c.end_run.ensures.front))) needs.silent (not_run calls.EndRun refl))
    c.judge_unasked.ensures.told
