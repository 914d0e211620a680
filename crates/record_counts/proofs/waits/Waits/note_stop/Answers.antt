use Rattle.std.proofs.Common.{◌+◌, ◌<◌, ◌||◌, Bool, ap, ap₂, ◌∙◌}
use Rattle.step_law.specs.declared.actor.Actor.{Actor}
use Rattle.step_law.specs.declared.entry.Entry.{Entry}
use Rattle.step_law.specs.Entry.{stop_of}
use Rattle.record_law.specs.Entries.{same_entry}
use Rattle.record_counts.specs.Step.{step_of}
use Rattle.record_counts.proofs.WaitLaws.{stop_noted}
use Rattle.record_counts.proofs.waits.Waits.note_stop.Goals as goal

pub returns : goal.returns
returns c shape h about kind told =
    rw c.put_stopped.ensures
    (stop_noted shape h (step_of c.args.entry about) c.args.self.now told kind (c.is_same.result || c.has_stopped-had_stopped.result)
    (λ within.
    let there : c.args.entry.actor < 2 + shape.workers = rw told.all_actors at within in
    ap₂ (λ (a b : Bool). a || b)
    (c.is_same.ensures ∙ ap (λ (it : Entry). same_entry it c.args.entry) c.stop-stop.ensures
    ∙ ap (λ (actor : Actor). same_entry (stop_of actor) c.args.entry) c.from_number.ensures.value)
    (c.has_stopped-had_stopped.ensures shape h told there)))
