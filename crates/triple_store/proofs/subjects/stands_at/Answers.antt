use Rattle.std.proofs.Common.{sym, ◌∙◌}
use Rattle.triple_store.proofs.Places.{place-looked}
use Rattle.triple_store.proofs.subjects.stands_at.Goals as goal

pub returns-in-Some : goal.returns-in-Some
returns-in-Some c same =
    place-looked c.args.ends.now c.args.at c.get_index.result c.in-Some.term c.in-Some.field-0-1 c.args.subject.now c.get_index.ensures.entry c.in-Some.is (sym c.same.ensures ∙ same)
