use Rattle.std.proofs.Common.{◌≡◌, ℕ, List, length, [], ◌∷◌, refl, ap, sym, ◌∙◌}
use Rattle.step_law.specs.declared.call.Call.TheVariants as calls
use Rattle.step_law.specs.Actor.{actor_at}
use Rattle.step_law.specs.Entry.{begin_of, end_of}
use Rattle.step_record.specs.Log.{Logged}
use Rattle.state_store.specs.declared.prop.Prop.{Prop}
use Rattle.session_play.specs.Run.{with_properties}
use Rattle.session_play.specs.Value.{saved}
use Rattle.record_terms.specs.Message.{meaning_of}
use Rattle.judged_log.specs.Followed.{entries_of}
use Rattle.told_calls.proofs.Calls.{quiet_stands, save_plays, not_run, told_after}
use Rattle.told_calls.proofs.backs.save.Goals as goal

pub returns-clause-goes_on : goal.returns-clause-goes_on
returns-clause-goes_on g c run names k of stands needs =
    let old = c.args.log.now.log.items in
    let actor = actor_at c.args.actor in
    let inst = c.args.back.now.inst in
    let part = c.args.back.now.part in
    let about = meaning_of c.in_ok-about.about in
    let mapped : length (with_properties run.setup k.urids) ≡ c.args.shelf.now.mapped = needs.are_mapped in
    let same : g.C.Back.Back.meaning.save part c.args.shelf.now.mapped ≡ run.backs.save part (length (with_properties run.setup k.urids)) =
    λ t. (sym needs.has.backs t).save part (sym mapped t) in
    quiet_stands run names k c.args.shape.now (entries_of old) (entries_of c.judge.new.log.log.items) c.args.actor calls.Save inst about (saved c.save-status.result c.save-status.new.shelf.rows) of stands
    (ap (λ (it : Logged). entries_of it.items) c.in_ok-about.ensures.log ∙ c.save-status.ensures.log)
    (told_after c.args.shape.now old c.save-status.new.log.items c.len-from.result about (begin_of actor calls.Save inst ∷ end_of actor calls.Save inst ∷ []) c.len-from.ensures c.save-status.ensures.log
    c.in_ok-about.ensures.told)
    (save_plays _ _ (λ back. run.backs.save back (length (with_properties run.setup k.urids))) (k.backs inst) part c.save-status.result c.save-status.new.shelf.rows needs.has.is_back
    (c.save-status.ensures.status ∙ ap (λ (it : ℕ × List (ℕ × Prop)). it.0) same)
    (ap (λ it. it.rows) c.save-status.ensures.shelf ∙ ap (λ (it : ℕ × List (ℕ × Prop)). it.1) same)) needs.silent (not_run calls.Save refl)
