use Rattle.std.proofs.Common.{ap, ◌∙◌}
use Rattle.step_law.specs.declared.entry.Entry.{Entry}
use Rattle.step_record.specs.Log.{Logged}
use Rattle.judged_log.proofs.Marks.{at_place}
use Rattle.told_calls.specs.Steps.{message_in}
use Rattle.told_calls.proofs.judging.judge_at.Goals as goal

pub returns-then-is_in_call-clause-told : goal.returns-then-is_in_call-clause-told
returns-then-is_in_call-clause-told c entry got =
    let same = c.items.ensures ∙ ap (λ (it : Logged). it.items) c.in_ok-about.ensures.log in
    c.in_ok-about.ensures.about entry got ∙ c.is_in_call.ensures c.if-is_in_call.true
    ∙ ap (λ (e : Entry). message_in e.kind) (at_place c.args.log.now.log.items c.items.result.now same c.args.place _ entry got)
