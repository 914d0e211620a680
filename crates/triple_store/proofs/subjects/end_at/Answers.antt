use Rattle.std.proofs.Common.{sym}
use Rattle.triple_store.proofs.Changes.{inserted}
use Rattle.triple_store.proofs.Places.{kept-at, written-at, replaced-at}
use Rattle.triple_store.proofs.SameTerm.{copy_of_term}
use Rattle.triple_store.proofs.subjects.end_at.Goals as goal

pub returns-in-Some-clause-before : goal.returns-in-Some-clause-before
returns-in-Some-clause-before c =
    let pair = c.pair_mut-kept in
    sym (kept-at c.args.ends.now c.in-Some.at c.args.subject.now pair.result.0.now pair.result.1.now c.in-Some.ensures pair.ensures.value pair.ensures.unique)

pub returns-in-Some-clause-after : goal.returns-in-Some-clause-after
returns-in-Some-clause-after c =
    let pair = c.pair_mut-kept in
    written-at c.args.ends.now c.in-Some.at c.args.subject.now pair.result.0.now pair.result.1.now _ c.in-Some.ensures pair.ensures.value pair.ensures.unique

pub returns-in-Some-before-clause-after : goal.returns-in-Some-before-clause-after
returns-in-Some-before-clause-after c =
    let pair = c.pair_mut-kept-in-Some-before in
    let made = c.in_ok-at.ensures in
    replaced-at c.args.ends.now c.insert_full.new.self c.args.subject.now c.in_ok-clone.field-0 c.args.place c.in-Some-before.ends_before.first c.in_ok-at.at pair.result.0.now pair.result.1.now
    (copy_of_term c.args.subject.now c.in_ok-clone.field-0 c.in_ok-clone.ensures.cases) made.entries made.index made.updates.0 pair.ensures.value pair.ensures.unique

pub returns-in_default-before-clause-after : goal.returns-in_default-before-clause-after
returns-in_default-before-clause-after c =
    rw c.in_default-before.is (inserted c.args.ends.now c.insert_full.new.self c.args.subject.now c.in_ok-clone.field-0 _
    (copy_of_term c.args.subject.now c.in_ok-clone.field-0 c.in_ok-clone.ensures.cases) c.in_ok-at.ensures.updates.0)
