use Rattle.std.proofs.Common.{rules, ap, refl, ◌∙◌}
use Rattle.record_law.specs.Message.Message.{notice}
use Rattle.record_terms.specs.Message.{meaning_of}
use Rattle.judged_log.specs.Followed.{entries_of}
use Rattle.record_counts.specs.Step.{step_of}
use Rattle.told_entries.proofs.Going.{notice_goes_on}
use Rattle.told_entries.proofs.notice.mark_notice.Goals as goal

pub returns-in-Notice-clause-goes_on : goal.returns-in-Notice-clause-goes_on
returns-in-Notice-clause-goes_on g c =
    let marked = c.in_ok-inst.ensures in
    notice_goes_on c.args.long c.args.shape.now (entries_of c.args.log.now.log.items) (entries_of c.mark.new.self.log.items)
    (step_of c.args.entry (notice c.in-Notice.inst)) c.in-Notice.inst
    (record { goes = marked.entries; keeps = marked.followed.keeps_rules; about = marked.about ∙ ap meaning_of c.in-Notice.is })
    (c.tells.ensures.by_audio (search rules)) (c.tells.ensures.tries (search rules) (notice c.in-Notice.inst)) refl (c.tells.ensures.long (search rules))
