-- What an entry tells of is its form, and no other event is.
use Rattle.std.proofs.Common.{◌∙◌}
use Rattle.step_law.proofs.EntryLaws.{told_forms}
use Rattle.step_law.proofs.EventLaws.{form_told}
use Rattle.step_law.proofs.entry.Entry.event.Goals as goal

pub returns-clause-form : goal.returns-clause-form
returns-clause-form c = told_forms c.args.self c.told_by_actor.result c.told_by_actor.ensures

pub returns-clause-each : goal.returns-clause-each
returns-clause-each c = λ event form. c.told_by_actor.ensures ∙ form_told event c.args.self form
