use Rattle.std.proofs.Common.{sym, ◌∙◌}
use Rattle.record_counts.proofs.KeptLaws.{newest_form}
use Rattle.record_counts.proofs.LookLaws.{last_shows}
use Rattle.record_counts.proofs.looks.Looks.last_shows_no_more.Goals as goal

pub returns-in-Some : goal.returns-in-Some
returns-in-Some c shape h kept counted told turn within =
    let newest = c.in-Some.ensures shape h told within in
    let form = newest_form shape h c.args.actor c.in-Some.last kept (sym newest) in
    c.shows_no_more.ensures shape h form counted told turn ∙ sym (last_shows shape h c.args.actor c.in-Some.last (sym newest))
