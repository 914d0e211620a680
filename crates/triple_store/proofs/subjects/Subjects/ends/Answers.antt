use Rattle.std.proofs.Common.{sym}
use Rattle.triple_store.proofs.Places.{kept-at}
use Rattle.triple_store.proofs.subjects.Subjects.ends.Goals as goal

pub returns-in_ok-ends-in-Some : goal.returns-in_ok-ends-in-Some
returns-in_ok-ends-in-Some c =
    sym (kept-at c.args.self.now.ends c.in-Some.at c.args.subject.now c.in_ok-ends-in-Some.field-0-0.now c.in_ok-ends-in-Some.ends.now c.in-Some.ensures (sym c.in_ok-ends-in-Some.ensures.entry) c.len-count.ensures.unique)
