use Rattle.std.proofs.Common.{ap, sym, ◌∙◌}
use Rattle.step_law.specs.declared.actor.Actor.{Actor}
use Rattle.record_law.specs.Entries.{is_by}
use Rattle.record_counts.specs.Owners.{part_of}
use Rattle.record_counts.proofs.OwnerLaws.{owns_is}
use Rattle.record_counts.proofs.owners.Owners.owns.Goals as goal

pub returns-in-Home : goal.returns-in-Home
returns-in-Home c h told within =
    c.is_by.ensures ∙ ap (λ (who : Actor). is_by who c.args.entry) c.home.ensures
    ∙ sym (owns_is c.args.shape.now (part_of c.args.part) h c.args.entry _ (c.in-Home.ensures c.args.shape.now h told within))

pub returns-in-Control : goal.returns-in-Control
returns-in-Control c h told within =
    c.is_by-in-Control.ensures ∙ sym (owns_is c.args.shape.now (part_of c.args.part) h c.args.entry _ (c.in-Control.ensures c.args.shape.now h told within))

pub returns-in-Nobody : goal.returns-in-Nobody
returns-in-Nobody c h told within = sym (owns_is c.args.shape.now (part_of c.args.part) h c.args.entry _ (c.in-Nobody.ensures c.args.shape.now h told within))
