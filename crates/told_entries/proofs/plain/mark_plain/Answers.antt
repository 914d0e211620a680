use Rattle.std.proofs.Common.{sym, ◌∙◌}
use Rattle.record_terms.specs.Message.{meaning_of}
use Rattle.judged_log.specs.Followed.{entries_of}
use Rattle.record_counts.specs.Step.{step_of}
use Rattle.told_entries.proofs.Going.{plain_goes_on}
use Rattle.told_entries.proofs.plain.mark_plain.Goals as goal

pub returns-then-is_plain-clause-goes_on : goal.returns-then-is_plain-clause-goes_on
returns-then-is_plain-clause-goes_on g c =
    let marked = c.in_ok-about.ensures in
    plain_goes_on c.args.shape.now (entries_of c.args.log.now.log.items) (entries_of c.mark.new.self.log.items)
    (step_of c.args.entry (meaning_of c.in_ok-about.about)) (record { goes = marked.entries; keeps = marked.followed.keeps_rules; about = marked.about })
    (sym c.is_plain.ensures ∙ c.if-is_plain.true)
