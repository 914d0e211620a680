use Rattle.std.proofs.Common.{[], ◌∷◌, Ok, refl, ap, sym, subst, ◌∙◌}
use Rattle.step_law.specs.declared.call.Call.TheVariants as calls
use Rattle.step_law.specs.Actor.{actor_at}
use Rattle.step_law.specs.Entry.{begin_of, end_of}
use Rattle.step_record.specs.Log.{Logged}
use Rattle.record_law.specs.Message.Message.{nothing}
use Rattle.plug_api.specs.declared.fault.MakeFault.TheVariants.{NoMemory}
use Rattle.plug_api.specs.Meaning.{made, IsMade}
use Rattle.session_play.specs.Run.{options_for}
use Rattle.session_play.specs.Value.{began}
use Rattle.judged_log.specs.Followed.{entries_of}
use Rattle.told_calls.proofs.Calls.{quiet_stands, make_plays, not_run, told_after, no_fault, the_first}
use Rattle.told_calls.proofs.wholes.make.Goals as goal

pub returns-clause-goes_on : goal.returns-clause-goes_on
returns-clause-goes_on g c run names k of stands needs =
    let old = c.args.log.now.log.items in
    let actor = actor_at c.args.actor in
    let inst = c.args.inst in
    let it = c.in_ok-made.made in
    let urids = c.make.new.urids in
    let log = the_first c.in_ok-made.ensures.log (λ other. no_fault it NoMemory other.0) in
    quiet_stands run names k c.args.shape.now (entries_of old) (entries_of c.judge_unasked.new.log.log.items) c.args.actor calls.Make inst nothing (began (made it.front it.back urids)) of stands
    (ap (λ (l : Logged). entries_of l.items) c.in_ok-judge_unasked.ensures.log ∙ log)
    (told_after c.args.shape.now old c.make.new.log.items c.len-from.result nothing (begin_of actor calls.Make inst ∷ end_of actor calls.Make inst ∷ []) c.len-from.ensures log
    c.in_ok-judge_unasked.ensures.told)
    (make_plays _ _ (λ decl. run.codes.make decl run.setup.session.rate (options_for run.setup) k.urids) _ c.args.decl.now it.front it.back urids needs.is_decl
    (subst (λ making. IsMade making (Ok (it.front, it.back)) urids)
    (λ t. (sym needs.are_codes t).make c.args.decl.now (sym needs.is_rate t) (sym needs.are_options t) (sym needs.are_urids t)) c.in_ok-made.ensures.made))
    needs.silent (not_run calls.Make refl)
