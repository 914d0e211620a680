use Rattle.std.proofs.Common.{rules, arith, refl, sym, ap, subst, ◌∙◌, ◌≡◌, ◌+◌, ◌-◌, ◌*◌, ◌^◌, ◌<◌, ◌≤◌, ◌∷◌, [], List, ℕ, suc, length, Option, Some, None}
use mathlib.Core.Option.{some}
use lib.ListN.{get_elem?}
use Rattle.atomic_table.proofs.Lists.{at_index}
use Rattle.cable_trace.specs.declared.trace.Action.TheVariants.{Marked, Sent, Refused, Looked, Taken}
use Rattle.cable_trace.specs.Trace.{sent, shown, taken}
use Rattle.cable_ring.specs.declared.pass.Count.{Count}
use Rattle.cable_ring.specs.Passes.{PassView, pass_at, trace_at, noted, sender_at, taker_at}
use Rattle.cable_ring.proofs.AfterCall.{sized_after, cells_after, left_after, counts_after, sender-lt, taker-lt}
use Rattle.cable_ring.proofs.Counting.{counts_looked}
use Rattle.cable_ring.proofs.cable.Cable.look.Goals as goal

pub index-count-requires : goal.index-count-requires
index-count-requires g c = let p : PassView g.row.M.Denot = pass_at c.pass.inside.place in let inv = c.pass.invariant in let v = c.pass.inside.counts in let long = inv.counted.long in
    let its : taker_at p.plan.rings c.args.ring ≡ suc p.actor = subst (λ (q : PassView g.row.M.Denot). taker_at q.plan.rings c.args.ring ≡ suc q.actor) (sym c.pass.view_is) c.requires.taker in
    let below = taker-lt p.plan.rings c.args.ring p.actor its in
    omega (arith, v.ok.0)

pub index_mut-requires : goal.index_mut-requires
index_mut-requires g c = let p : PassView g.row.M.Denot = pass_at c.pass.inside.place in let inv = c.pass.invariant in let v = c.pass.inside.counts in let long = inv.counted.long in
    let its : taker_at p.plan.rings c.args.ring ≡ suc p.actor = subst (λ (q : PassView g.row.M.Denot). taker_at q.plan.rings c.args.ring ≡ suc q.actor) (sym c.pass.view_is) c.requires.taker in
    let below = taker-lt p.plan.rings c.args.ring p.actor its in
    omega (arith, v.ok.0)

pub overflow_sub-result : goal.overflow_sub-result
overflow_sub-result g c = let p : PassView g.row.M.Denot = pass_at c.pass.inside.place in let inv = c.pass.invariant in let v = c.pass.inside.counts in let long = inv.counted.long in
    let its : taker_at p.plan.rings c.args.ring ≡ suc p.actor = subst (λ (q : PassView g.row.M.Denot). taker_at q.plan.rings c.args.ring ≡ suc q.actor) (sym c.pass.view_is) c.requires.taker in
    let below = taker-lt p.plan.rings c.args.ring p.actor its in
    let count : Count = c.index-count.result.now in let inside : c.args.ring < length v.items = omega (arith, v.ok.0) in
    let at : get_elem? v.items c.args.ring ≡ some count = at_index v.items c.args.ring count inside c.index-count.ensures in
    let is = inv.counted.taken_is c.args.ring count at in let low = c.look_on-total.ensures.within.0 in omega arith

pub invariant_of-pass : goal.invariant_of-pass
invariant_of-pass g c = let p : PassView g.row.M.Denot = pass_at c.pass.inside.place in let inv = c.pass.invariant in let v = c.pass.inside.counts in let long = inv.counted.long in
    let its : taker_at p.plan.rings c.args.ring ≡ suc p.actor = subst (λ (q : PassView g.row.M.Denot). taker_at q.plan.rings c.args.ring ≡ suc q.actor) (sym c.pass.view_is) c.requires.taker in
    let below = taker-lt p.plan.rings c.args.ring p.actor its in
    let count : Count = c.index-count.result.now in let inside : c.args.ring < length v.items = omega (arith, v.ok.0) in
    let at : get_elem? v.items c.args.ring ≡ some count = at_index v.items c.args.ring count inside c.index-count.ensures in
    let is = inv.counted.taken_is c.args.ring count at in let low = c.look_on-total.ensures.within.0 in
    let now : PassView g.row.M.Denot = pass_at c.look_on-total.new.place in let t : ℕ = c.look_on-total.result.1 in let total : ℕ = c.look_on-total.result.0 in
    let told = c.look_on-total.ensures.noted in let e : now ≡ noted p t (Looked c.args.ring total told.0) = told.1 in
    let left = c.requires.left in let l = inv.left_is in
    let some_left : c.pass.inside.left - 1 + 1 ≡ c.pass.inside.left = (let own : 1 + length p.events ≤ 2 ^ 56 = subst (λ (q : PassView g.row.M.Denot). 1 + length q.events ≤ 2 ^ 56) (sym c.pass.view_is) left in omega arith) in
    let shown-is : total ≡ length (shown c.args.ring (trace_at (noted p t (Looked c.args.ring total told.0)))) = c.look_on-total.ensures.shown ∙ ap (λ (q : PassView g.row.M.Denot). length (shown c.args.ring (trace_at q))) e in
    record {
      resting = c.look_on-total.ensures.seat;
      sized = sized_after p now t (Looked c.args.ring total told.0) e inv.sized;
      cells_are = cells_after p now t (Looked c.args.ring total told.0) e c.pass.inside.cells inv.cells_are;
      left_is = left_after p now t (Looked c.args.ring total told.0) e c.pass.inside.left (c.pass.inside.left - 1) inv.left_is some_left;
      counted = counts_after p now t (Looked c.args.ring total told.0) e _ (counts_looked p t v.items inv.counted c.args.ring count at total told.0 shown-is (omega arith));
    }

pub returns-clause-shown : goal.returns-clause-shown
returns-clause-shown g c = let p : PassView g.row.M.Denot = pass_at c.pass.inside.place in let inv = c.pass.invariant in let v = c.pass.inside.counts in let long = inv.counted.long in
    let its : taker_at p.plan.rings c.args.ring ≡ suc p.actor = subst (λ (q : PassView g.row.M.Denot). taker_at q.plan.rings c.args.ring ≡ suc q.actor) (sym c.pass.view_is) c.requires.taker in
    let below = taker-lt p.plan.rings c.args.ring p.actor its in
    let count : Count = c.index-count.result.now in let inside : c.args.ring < length v.items = omega (arith, v.ok.0) in
    let at : get_elem? v.items c.args.ring ≡ some count = at_index v.items c.args.ring count inside c.index-count.ensures in
    let is = inv.counted.taken_is c.args.ring count at in let low = c.look_on-total.ensures.within.0 in let all = c.look_on-total.ensures.shown in
    let sum : c.look_on-total.result.0 - count.taken + length (taken c.args.ring (trace_at p)) ≡ length (shown c.args.ring (trace_at (pass_at c.look_on-total.new.place))) = omega arith in
    subst (λ (q : PassView g.row.M.Denot). c.look_on-total.result.0 - count.taken + length (taken c.args.ring (trace_at q)) ≡ length (shown c.args.ring (trace_at (pass_at c.look_on-total.new.place)))) c.pass.view_is sum

pub returns-clause-within : goal.returns-clause-within
returns-clause-within g c = let p : PassView g.row.M.Denot = pass_at c.pass.inside.place in let inv = c.pass.invariant in let v = c.pass.inside.counts in let long = inv.counted.long in
    let its : taker_at p.plan.rings c.args.ring ≡ suc p.actor = subst (λ (q : PassView g.row.M.Denot). taker_at q.plan.rings c.args.ring ≡ suc q.actor) (sym c.pass.view_is) c.requires.taker in
    let below = taker-lt p.plan.rings c.args.ring p.actor its in
    let count : Count = c.index-count.result.now in let inside : c.args.ring < length v.items = omega (arith, v.ok.0) in
    let at : get_elem? v.items c.args.ring ≡ some count = at_index v.items c.args.ring count inside c.index-count.ensures in
    let is = inv.counted.taken_is c.args.ring count at in let most = c.look_on-total.ensures.within.1 in
    let few : c.look_on-total.result.0 - count.taken ≤ p.plan.cells = omega arith in
    subst (λ (q : PassView g.row.M.Denot). c.look_on-total.result.0 - count.taken ≤ q.plan.cells) c.pass.view_is few
