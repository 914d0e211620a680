use Rattle.std.proofs.Common.{ap, subst₂, sym, ◌∙◌}
use Rattle.interaction.specs.Attempts.{Plays}
use Rattle.step_law.specs.declared.call.Call.TheVariants as calls
use Rattle.step_record.specs.Log.{Logged}
use Rattle.session_play.specs.Value.{ran}
use Rattle.plug_api.specs.Inputs.{Inputs}
use Rattle.plug_api.specs.Meaning.{FrontMeaning}
use Rattle.block_signals.specs.Given.{inputs_from}
use Rattle.record_law.specs.Message.Message.{nothing}
use Rattle.judged_log.specs.Followed.{entries_of}
use Rattle.list_calls.specs.Leaving.{entries_by, told_of}
use Rattle.told_calls.proofs.Calls.{trying_stands, run_plays, on_ok, told_after}
use Rattle.told_calls.proofs.attempting.run.Goals as goal

pub returns-clause-ran : goal.returns-clause-ran
returns-clause-ran g c =
    let old = c.args.log.now.log.items in
    let caller = c.args.caller in
    let inst = c.args.front.now.inst in
    let part = c.args.front.now.part in
    let did = c.run.ensures.ran in
    let left = did.5 in
    let told = told_of caller did.0 in
    let entries = entries_by caller calls.Run inst told in
    let after = c.run.new.front.part in
    let outputs = did.1 in
    on_ok c.judge_unasked.result
    (λ judged. (
      outputs,
      told,
      did.3,
      did.4,
      left.waits,
      λ run names k of stands needs.
          trying_stands run names k c.args.shape.now (entries_of old) (entries_of c.judge_unasked.new.log.log.items) caller calls.Run inst nothing (ran after outputs) did.0 of stands
          (ap (λ (it : Logged). entries_of it.items) c.judge_unasked.ensures.log ∙ left.entries)
          (told_after c.args.shape.now old c.run.new.log.items c.len-from.result nothing entries c.len-from.ensures left.entries judged)
          (run_plays _ _ (λ front. run.fronts.run front (inputs_from run.setup k.board inst)) (k.fronts inst) part after outputs did.0 needs.has.is_front
          (subst₂ (λ (m : FrontMeaning _) (given : Inputs). Plays (m.run part given) did.0 (after, outputs)) (sym needs.has.fronts) (sym needs.given) did.2))
          needs.working left.answered left.refused needs.silent (λ is. (needs.by_audio, needs.numbered)),
    ))
    c.judge_unasked.ensures.told
