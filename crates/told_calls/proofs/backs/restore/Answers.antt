use Rattle.std.proofs.Common.{◌≡◌, [], ◌∷◌, refl, ap, sym, ◌∙◌}
use Rattle.step_law.specs.declared.call.Call.TheVariants as calls
use Rattle.step_law.specs.Actor.{actor_at}
use Rattle.step_law.specs.Entry.{begin_of, end_of}
use Rattle.step_record.specs.Log.{Logged}
use Rattle.session_play.specs.Calls.{state_of}
use Rattle.session_play.specs.Value.{restored}
use Rattle.record_terms.specs.Message.{meaning_of}
use Rattle.judged_log.specs.Followed.{entries_of}
use Rattle.told_calls.proofs.Calls.{quiet_stands, restore_plays, not_run, told_after}
use Rattle.told_calls.proofs.backs.restore.Goals as goal

pub returns-clause-goes_on : goal.returns-clause-goes_on
returns-clause-goes_on g c run names k of stands needs =
    let old = c.args.log.now.log.items in
    let actor = actor_at c.args.actor in
    let inst = c.args.front.now.inst in
    let about = meaning_of c.in_ok-about.about in
    let front = c.restore-status.new.front.part in
    let back = c.restore-status.new.back.part in
    let status = c.restore-status.result in
    let same : g.C.Codes.meaning c.args.codes.now ≡ run.codes = sym needs.are_codes in
    quiet_stands run names k c.args.shape.now (entries_of old) (entries_of c.judge.new.log.log.items) c.args.actor calls.Restore inst about (restored front back status) of stands
    (ap (λ (it : Logged). entries_of it.items) c.in_ok-about.ensures.log ∙ c.restore-status.ensures.log)
    (told_after c.args.shape.now old c.restore-status.new.log.items c.len-at.result about (begin_of actor calls.Restore inst ∷ end_of actor calls.Restore inst ∷ []) c.len-at.ensures c.restore-status.ensures.log
    c.in_ok-about.ensures.told)
    (restore_plays _ _ (λ f b. run.codes.restore f b (state_of run about)) (k.fronts inst) (k.backs inst) c.args.front.now.part front c.args.back.now.part back status needs.is_front needs.is_back
    (c.restore-status.ensures.restored ∙ (λ t. (same t).restore c.args.front.now.part c.args.back.now.part (sym needs.is_state t)))) needs.silent (not_run calls.Restore refl)
