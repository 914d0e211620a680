use Rattle.std.proofs.Common.{[], ◌∷◌, refl, ap, ◌∙◌}
use Rattle.step_law.specs.declared.call.Call.TheVariants as calls
use Rattle.step_law.specs.Actor.{actor_at}
use Rattle.step_law.specs.Entry.{begin_of, end_of}
use Rattle.step_record.specs.Log.{Logged}
use Rattle.session_play.specs.Value.{idle}
use Rattle.record_law.specs.Message.Message.{nothing}
use Rattle.judged_log.specs.Followed.{entries_of}
use Rattle.told_calls.proofs.Calls.{quiet_stands, not_run, on_ok, told_after}
use Rattle.told_calls.proofs.wholes.cleanup.Goals as goal

pub returns-clause-goes_on : goal.returns-clause-goes_on
returns-clause-goes_on g c =
    let old = c.args.log.now.log.items in
    let actor = actor_at c.args.actor in
    let inst = c.args.made.inst in
    on_ok c.judge_unasked.result
    (λ told run names k of stands silent.
    quiet_stands run names k c.args.shape.now (entries_of old) (entries_of c.judge_unasked.new.log.log.items) c.args.actor calls.Cleanup inst nothing idle of stands
    (ap (λ (it : Logged). entries_of it.items) c.judge_unasked.ensures.log ∙ c.cleanup.ensures)
    (told_after c.args.shape.now old c.cleanup.new.log.items c.len-from.result nothing (begin_of actor calls.Cleanup inst ∷ end_of actor calls.Cleanup inst ∷ []) c.len-from.ensures c.cleanup.ensures told)
    refl silent (not_run calls.Cleanup refl))
    c.judge_unasked.ensures.told
