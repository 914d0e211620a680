use Rattle.std.proofs.Common.{rules, arith, refl, sym, ap, subst, ◌∙◌, ◌≡◌, ◌+◌, ◌-◌, ◌*◌, ◌^◌, ◌<◌, ◌≤◌, ◌∷◌, [], List, ℕ, suc, length, Option, Some, None}
use mathlib.Core.Option.{some}
use lib.ListN.{get_elem?}
use Rattle.atomic_table.proofs.Lists.{at_index}
use Rattle.cable_trace.specs.declared.trace.Action.TheVariants.{Marked, Sent, Refused, Looked, Taken}
use Rattle.cable_trace.specs.Trace.{sent, shown, taken}
use Rattle.cable_ring.specs.declared.pass.Count.{Count}
use Rattle.cable_ring.specs.Passes.{PassView, pass_at, trace_at, noted, sender_at, taker_at}
use Rattle.cable_ring.proofs.AfterCall.{sized_after, cells_after, left_after, counts_after, sender-lt, taker-lt}
use Rattle.cable_ring.specs.Passes.{IsNext}
use Rattle.cable_ring.proofs.Counting.{counts_taken, taken-le}
use Rattle.cable_ring.proofs.cable.Cable.take.Goals as goal

pub index-count-requires : goal.index-count-requires
index-count-requires g c = let p : PassView g.row.M.Denot = pass_at c.pass.inside.place in let inv = c.pass.invariant in let v = c.pass.inside.counts in let long = inv.counted.long in
    let its : taker_at p.plan.rings c.args.ring ≡ suc p.actor = subst (λ (q : PassView g.row.M.Denot). taker_at q.plan.rings c.args.ring ≡ suc q.actor) (sym c.pass.view_is) c.requires.taker in
    let below = taker-lt p.plan.rings c.args.ring p.actor its in
    omega (arith, v.ok.0)

pub returns-then-count-clause-none : goal.returns-then-count-clause-none
returns-then-count-clause-none g c = let p : PassView g.row.M.Denot = pass_at c.pass.inside.place in let inv = c.pass.invariant in let v = c.pass.inside.counts in let long = inv.counted.long in
    let its : taker_at p.plan.rings c.args.ring ≡ suc p.actor = subst (λ (q : PassView g.row.M.Denot). taker_at q.plan.rings c.args.ring ≡ suc q.actor) (sym c.pass.view_is) c.requires.taker in
    let below = taker-lt p.plan.rings c.args.ring p.actor its in
    let count : Count = c.index-count.result.now in let inside : c.args.ring < length v.items = omega (arith, v.ok.0) in
    let at : get_elem? v.items c.args.ring ≡ some count = at_index v.items c.args.ring count inside c.index-count.ensures in
    let took = inv.counted.taken_is c.args.ring count at in let saw = inv.counted.shown_is c.args.ring count at in let same = c.if-count.true in
    let equal : length (shown c.args.ring (trace_at p)) ≡ length (taken c.args.ring (trace_at p)) = omega arith in
    (subst (λ (q : PassView g.row.M.Denot). length (shown c.args.ring (trace_at q)) ≡ length (taken c.args.ring (trace_at q))) c.pass.view_is equal, refl)

pub take_on-took-requires-clause-numbers : goal.take_on-took-requires-clause-numbers
take_on-took-requires-clause-numbers g c = let p : PassView g.row.M.Denot = pass_at c.pass.inside.place in let inv = c.pass.invariant in let v = c.pass.inside.counts in let long = inv.counted.long in
    let its : taker_at p.plan.rings c.args.ring ≡ suc p.actor = subst (λ (q : PassView g.row.M.Denot). taker_at q.plan.rings c.args.ring ≡ suc q.actor) (sym c.pass.view_is) c.requires.taker in
    let below = taker-lt p.plan.rings c.args.ring p.actor its in
    let count : Count = c.index-count.result.now in let inside : c.args.ring < length v.items = omega (arith, v.ok.0) in
    let at : get_elem? v.items c.args.ring ≡ some count = at_index v.items c.args.ring count inside c.index-count.ensures in
    (inv.cells_are, inv.counted.taken_is c.args.ring count at)

pub take_on-took-requires-clause-some_shown : goal.take_on-took-requires-clause-some_shown
take_on-took-requires-clause-some_shown g c = let p : PassView g.row.M.Denot = pass_at c.pass.inside.place in let inv = c.pass.invariant in let v = c.pass.inside.counts in let long = inv.counted.long in
    let its : taker_at p.plan.rings c.args.ring ≡ suc p.actor = subst (λ (q : PassView g.row.M.Denot). taker_at q.plan.rings c.args.ring ≡ suc q.actor) (sym c.pass.view_is) c.requires.taker in
    let below = taker-lt p.plan.rings c.args.ring p.actor its in
    let count : Count = c.index-count.result.now in let inside : c.args.ring < length v.items = omega (arith, v.ok.0) in
    let at : get_elem? v.items c.args.ring ≡ some count = at_index v.items c.args.ring count inside c.index-count.ensures in
    let saw = inv.counted.shown_is c.args.ring count at in let le = inv.counted.behind c.args.ring count at in let ne = c.if-count.false in
    let lt : count.taken < count.shown = omega (arith, ne, le) in omega arith

pub overflow_add-count : goal.overflow_add-count
overflow_add-count g c = let p : PassView g.row.M.Denot = pass_at c.pass.inside.place in let inv = c.pass.invariant in let v = c.pass.inside.counts in let long = inv.counted.long in
    let its : taker_at p.plan.rings c.args.ring ≡ suc p.actor = subst (λ (q : PassView g.row.M.Denot). taker_at q.plan.rings c.args.ring ≡ suc q.actor) (sym c.pass.view_is) c.requires.taker in
    let below = taker-lt p.plan.rings c.args.ring p.actor its in
    let count : Count = c.index-count.result.now in let inside : c.args.ring < length v.items = omega (arith, v.ok.0) in
    let at : get_elem? v.items c.args.ring ≡ some count = at_index v.items c.args.ring count inside c.index-count.ensures in
    let few : 1 + length p.events ≤ 2 ^ 56 = subst (λ (q : PassView g.row.M.Denot). 1 + length q.events ≤ 2 ^ 56) (sym c.pass.view_is) c.requires.left in
    let took = inv.counted.taken_is c.args.ring count at in omega (arith, taken-le c.args.ring p.events)

pub index_mut-requires : goal.index_mut-requires
index_mut-requires g c = let p : PassView g.row.M.Denot = pass_at c.pass.inside.place in let inv = c.pass.invariant in let v = c.pass.inside.counts in let long = inv.counted.long in
    let its : taker_at p.plan.rings c.args.ring ≡ suc p.actor = subst (λ (q : PassView g.row.M.Denot). taker_at q.plan.rings c.args.ring ≡ suc q.actor) (sym c.pass.view_is) c.requires.taker in
    let below = taker-lt p.plan.rings c.args.ring p.actor its in
    omega (arith, v.ok.0)

pub invariant_of-pass : goal.invariant_of-pass
invariant_of-pass g c = let p : PassView g.row.M.Denot = pass_at c.pass.inside.place in let inv = c.pass.invariant in let v = c.pass.inside.counts in let long = inv.counted.long in
    let its : taker_at p.plan.rings c.args.ring ≡ suc p.actor = subst (λ (q : PassView g.row.M.Denot). taker_at q.plan.rings c.args.ring ≡ suc q.actor) (sym c.pass.view_is) c.requires.taker in
    let below = taker-lt p.plan.rings c.args.ring p.actor its in
    let count : Count = c.index-count.result.now in let inside : c.args.ring < length v.items = omega (arith, v.ok.0) in
    let at : get_elem? v.items c.args.ring ≡ some count = at_index v.items c.args.ring count inside c.index-count.ensures in
    let le = inv.counted.behind c.args.ring count at in let ne = c.if-count.false in let lt : count.taken < count.shown = omega (arith, ne, le) in
    let now : PassView g.row.M.Denot = pass_at c.take_on-took.new.place in let t : ℕ = c.take_on-took.result.1 in let m = c.take_on-took.result.0 in
    let e : now ≡ noted p t (Taken c.args.ring m) = c.take_on-took.ensures.noted in
    let some_left : c.pass.inside.left - 1 + 1 ≡ c.pass.inside.left = (let own : 1 + length p.events ≤ 2 ^ 56 = subst (λ (q : PassView g.row.M.Denot). 1 + length q.events ≤ 2 ^ 56) (sym c.pass.view_is) c.requires.left in let l = inv.left_is in omega arith) in
    record {
      resting = c.take_on-took.ensures.seat;
      sized = sized_after p now t (Taken c.args.ring m) e inv.sized;
      cells_are = cells_after p now t (Taken c.args.ring m) e c.pass.inside.cells inv.cells_are;
      left_is = left_after p now t (Taken c.args.ring m) e c.pass.inside.left (c.pass.inside.left - 1) inv.left_is some_left;
      counted = counts_after p now t (Taken c.args.ring m) e _ (counts_taken p t v.items inv.counted c.args.ring count at m lt);
    }

pub returns-clause-taken : goal.returns-clause-taken
returns-clause-taken g c = let p : PassView g.row.M.Denot = pass_at c.pass.inside.place in let inv = c.pass.invariant in let v = c.pass.inside.counts in let long = inv.counted.long in
    let its : taker_at p.plan.rings c.args.ring ≡ suc p.actor = subst (λ (q : PassView g.row.M.Denot). taker_at q.plan.rings c.args.ring ≡ suc q.actor) (sym c.pass.view_is) c.requires.taker in
    let below = taker-lt p.plan.rings c.args.ring p.actor its in
    let count : Count = c.index-count.result.now in let inside : c.args.ring < length v.items = omega (arith, v.ok.0) in
    let at : get_elem? v.items c.args.ring ≡ some count = at_index v.items c.args.ring count inside c.index-count.ensures in
    let now : PassView g.row.M.Denot = pass_at c.take_on-took.new.place in let t : ℕ = c.take_on-took.result.1 in let m = c.take_on-took.result.0 in
    let took = inv.counted.taken_is c.args.ring count at in
    let is : get_elem? (shown c.args.ring (trace_at p)) (length (taken c.args.ring (trace_at p))) ≡ some m = ap (λ (k : ℕ). get_elem? (shown c.args.ring (trace_at p)) k) (sym took) ∙ c.take_on-took.ensures.message in
    subst (λ (q : PassView g.row.M.Denot). IsNext t q × (get_elem? (shown c.args.ring (trace_at q)) (length (taken c.args.ring (trace_at q))) ≡ some m) × (now ≡ noted q t (Taken c.args.ring m))) c.pass.view_is
    (c.take_on-took.ensures.next, is, c.take_on-took.ensures.noted)
