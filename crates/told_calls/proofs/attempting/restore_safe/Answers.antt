use Rattle.std.proofs.Common.{ℕ, List, refl, ap, subst₂, sym, ◌∙◌}
use Rattle.interaction.specs.Attempts.{Plays}
use Rattle.step_law.specs.declared.call.Call.TheVariants as calls
use Rattle.step_record.specs.Log.{Logged}
use Rattle.session_play.specs.Calls.{state_of}
use Rattle.session_play.specs.Value.{worked}
use Rattle.plug_api.specs.Meaning.{BackMeaning}
use Rattle.state_store.specs.declared.prop.Prop.{Prop}
use Rattle.record_terms.specs.Message.{meaning_of}
use Rattle.judged_log.specs.Followed.{entries_of}
use Rattle.list_calls.specs.Leaving.{entries_by, told_of}
use Rattle.told_calls.proofs.Calls.{trying_stands, back_plays, not_run, told_after}
use Rattle.told_calls.proofs.attempting.restore_safe.Goals as goal

pub returns-clause-restored : goal.returns-clause-restored
returns-clause-restored g c =
    let old = c.args.log.now.log.items in
    let caller = c.args.caller in
    let inst = c.args.back.now.inst in
    let part = c.args.back.now.part in
    let about = meaning_of c.in_ok-about.about in
    let did = c.restore_safe-status.ensures.restored in
    let left = did.2 in
    let told = told_of caller did.0 in
    let entries = entries_by caller calls.RestoreSafe inst told in
    let after = c.restore_safe-status.new.back.part in
    let status = c.restore_safe-status.result in (
      told,
      left.waits,
      λ run names k of stands needs.
          trying_stands run names k c.args.shape.now (entries_of old) (entries_of c.judge.new.log.log.items) caller calls.RestoreSafe inst about (worked after status) did.0 of stands
          (ap (λ (it : Logged). entries_of it.items) c.in_ok-about.ensures.log ∙ left.entries)
          (told_after c.args.shape.now old c.restore_safe-status.new.log.items c.len-at.result about entries c.len-at.ensures left.entries c.in_ok-about.ensures.told)
          (back_plays _ _ (λ back. run.backs.restore_safe back (state_of run about)) (k.backs inst) part after status did.0 needs.has.is_back
          (subst₂ (λ (m : BackMeaning _) (state : List (ℕ × Prop)). Plays (m.restore_safe part state) did.0 (after, status)) (sym needs.has.backs) (sym needs.is_state) did.1))
          needs.working left.answered left.refused needs.silent (λ is. absurd (not_run calls.RestoreSafe refl is)),
    )
