use Rattle.std.proofs.Common.{ap, ◌∙◌}
use Rattle.std.specs.List.{list_all}
use Rattle.record_counts.specs.declared.waits.Activity.{Activity}
use Rattle.record_counts.specs.declared.waits.Waits.{Waits}
use Rattle.record_counts.specs.Waits.{next_activity}
use Rattle.record_counts.specs.Step.{step_of}
use Rattle.record_counts.proofs.WaitLaws.{call_noted}
use Rattle.record_counts.proofs.waits.Waits.note_call.Goals as goal

pub returns : goal.returns
returns c shape h about is told =
    rw c.put_activity.ensures
    (call_noted shape h (step_of c.args.entry about) c.args.self.now told is c.after-activity.result
    (λ within. c.after-activity.ensures ∙ ap (next_activity c.args.entry.b c.args.entry) (c.activity.ensures shape h told within))
    c.are_all_activated-self.result
    (c.are_all_activated-self.ensures ∙ ap (λ (it : Waits). list_all (λ (one : Activity). one.activated) it.insts) c.put_activity.ensures))
