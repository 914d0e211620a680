use Rattle.std.proofs.Common.{subst, sym, refl}
use Rattle.triple_store.specs.Index.{AreIndexed}
use Rattle.triple_store.proofs.Changes.{absent, present, written, removed}
use Rattle.triple_store.proofs.Indexed.{front_of, has_ends, indexed-shorter, indexed-gone, taken}
use Rattle.triple_store.proofs.subjects.Subjects.drop_last.Goals as goal

pub returns-in_default-get_mut : goal.returns-in_default-get_mut
returns-in_default-get_mut c =
    absurd (has_ends c.args.self.now c.in-Some.field-0-1.now c.args.rows.now c.in-Some.row.now c.requires c.in-Some.ensures.cases.0
    (absent c.args.self.now.ends c.in-Some.row.now.s c.get_mut.result c.get_mut.ensures.value c.in_default-get_mut.is))

pub returns-then-ends : goal.returns-then-ends
returns-then-ends c =
    let whole = c.in-Some.ensures.cases.0 in
    let next = taken c.args.self.now c.in-Some.field-0-1.now c.args.rows.now c.in-Some.row.now c.requires whole c.pop.new.self.items c.pop.result c.pop.ensures.items c.pop.ensures.variant.1 in
    subst (AreIndexed _) (sym (front_of c.args.rows.now c.in-Some.field-0-1.now c.in-Some.row.now whole))
    (indexed-gone c.args.self.now _ c.in-Some.field-0-1.now c.args.rows.now c.in-Some.row.now c.in-Some-get_mut.ends.now next.0 c.in-Some-pop.previous c.requires whole
    (present c.args.self.now.ends c.in-Some.row.now.s c.get_mut.result c.in-Some-get_mut.ends c.get_mut.ensures.value c.in-Some-get_mut.is) c.if-ends.true
    (removed c.args.self.now.ends (c.get_mut.follows.lender c.in-Some-get_mut.ends.now) c.swap_remove.new.self c.in-Some.row.now.s c.get_mut.result c.in-Some-get_mut.ends c.in-Some-get_mut.ends.now c.get_mut.ensures.value c.in-Some-get_mut.is (c.get_mut.follows.holds _) c.swap_remove.ensures.updates.0)
    next.1 c.in-Some-pop.ensures.items)

pub returns-else-ends : goal.returns-else-ends
returns-else-ends c =
    let whole = c.in-Some.ensures.cases.0 in
    let next = taken c.args.self.now c.in-Some.field-0-1.now c.args.rows.now c.in-Some.row.now c.requires whole c.pop.new.self.items c.pop.result c.pop.ensures.items c.pop.ensures.variant.1 in
    subst (AreIndexed _) (sym (front_of c.args.rows.now c.in-Some.field-0-1.now c.in-Some.row.now whole))
    (indexed-shorter c.args.self.now _ c.in-Some.field-0-1.now c.args.rows.now c.in-Some.row.now c.in-Some-get_mut.ends.now _ next.0 c.in-Some-pop.previous c.requires whole
    (present c.args.self.now.ends c.in-Some.row.now.s c.get_mut.result c.in-Some-get_mut.ends c.get_mut.ensures.value c.in-Some-get_mut.is) c.if-ends.false
    (written c.args.self.now.ends _ c.in-Some.row.now.s c.get_mut.result c.in-Some-get_mut.ends _ c.get_mut.ensures.value c.in-Some-get_mut.is (c.get_mut.follows.holds _)) refl refl
    next.1 c.in-Some-pop.ensures.items)
