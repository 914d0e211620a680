use Rattle.std.proofs.Common.{rules, arith, refl, sym, ap, subst, ◌∙◌, ◌≡◌, ◌+◌, ◌-◌, ◌*◌, ◌^◌, ◌<◌, ◌≤◌, ◌∷◌, [], List, ℕ, suc, length, Option, Some, None}
use mathlib.Core.Option.{some}
use lib.ListN.{get_elem?}
use Rattle.atomic_table.proofs.Lists.{at_index}
use Rattle.cable_trace.specs.declared.trace.Action.TheVariants.{Marked, Sent, Refused, Looked, Taken}
use Rattle.cable_trace.specs.Trace.{sent, shown, taken}
use Rattle.cable_ring.specs.declared.pass.Count.{Count}
use Rattle.cable_ring.specs.Passes.{PassView, pass_at, trace_at, noted, sender_at, taker_at}
use Rattle.cable_ring.proofs.AfterCall.{sized_after, cells_after, left_after, counts_after, sender-lt, taker-lt}
use Rattle.cable_ring.proofs.Counting.{counts_sent, counts_refused, sent-le}
use Rattle.cable_ring.proofs.cable.Cable.send.Goals as goal

pub index-count-requires : goal.index-count-requires
index-count-requires g c = let p : PassView g.row.M.Denot = pass_at c.pass.inside.place in let inv = c.pass.invariant in let v = c.pass.inside.counts in let long = inv.counted.long in
    let its : sender_at p.plan.rings c.args.ring ≡ suc p.actor = subst (λ (q : PassView g.row.M.Denot). sender_at q.plan.rings c.args.ring ≡ suc q.actor) (sym c.pass.view_is) c.requires.sender in
    let below = sender-lt p.plan.rings c.args.ring p.actor its in
    omega (arith, v.ok.0)

pub send_on-requires-clause-numbers : goal.send_on-requires-clause-numbers
send_on-requires-clause-numbers g c = let p : PassView g.row.M.Denot = pass_at c.pass.inside.place in let inv = c.pass.invariant in let v = c.pass.inside.counts in let long = inv.counted.long in
    let its : sender_at p.plan.rings c.args.ring ≡ suc p.actor = subst (λ (q : PassView g.row.M.Denot). sender_at q.plan.rings c.args.ring ≡ suc q.actor) (sym c.pass.view_is) c.requires.sender in
    let below = sender-lt p.plan.rings c.args.ring p.actor its in
    let count : Count = c.index-count.result.now in let inside : c.args.ring < length v.items = omega (arith, v.ok.0) in
    let at : get_elem? v.items c.args.ring ≡ some count = at_index v.items c.args.ring count inside c.index-count.ensures in
    (inv.cells_are, inv.counted.sent_is c.args.ring count at)

pub overflow_add-count : goal.overflow_add-count
overflow_add-count g c = let p : PassView g.row.M.Denot = pass_at c.pass.inside.place in let inv = c.pass.invariant in let v = c.pass.inside.counts in let long = inv.counted.long in
    let its : sender_at p.plan.rings c.args.ring ≡ suc p.actor = subst (λ (q : PassView g.row.M.Denot). sender_at q.plan.rings c.args.ring ≡ suc q.actor) (sym c.pass.view_is) c.requires.sender in
    let below = sender-lt p.plan.rings c.args.ring p.actor its in
    let count : Count = c.index-count.result.now in let inside : c.args.ring < length v.items = omega (arith, v.ok.0) in
    let at : get_elem? v.items c.args.ring ≡ some count = at_index v.items c.args.ring count inside c.index-count.ensures in
    let few : 1 + length p.events ≤ 2 ^ 56 = subst (λ (q : PassView g.row.M.Denot). 1 + length q.events ≤ 2 ^ 56) (sym c.pass.view_is) c.requires.left in
    let did = inv.counted.sent_is c.args.ring count at in omega (arith, sent-le c.args.ring p.events)

pub index_mut-requires : goal.index_mut-requires
index_mut-requires g c = let p : PassView g.row.M.Denot = pass_at c.pass.inside.place in let inv = c.pass.invariant in let v = c.pass.inside.counts in let long = inv.counted.long in
    let its : sender_at p.plan.rings c.args.ring ≡ suc p.actor = subst (λ (q : PassView g.row.M.Denot). sender_at q.plan.rings c.args.ring ≡ suc q.actor) (sym c.pass.view_is) c.requires.sender in
    let below = sender-lt p.plan.rings c.args.ring p.actor its in
    omega (arith, v.ok.0)

pub invariant_of-pass : goal.invariant_of-pass
invariant_of-pass g c = let p : PassView g.row.M.Denot = pass_at c.pass.inside.place in let inv = c.pass.invariant in let v = c.pass.inside.counts in let long = inv.counted.long in
    let its : sender_at p.plan.rings c.args.ring ≡ suc p.actor = subst (λ (q : PassView g.row.M.Denot). sender_at q.plan.rings c.args.ring ≡ suc q.actor) (sym c.pass.view_is) c.requires.sender in
    let below = sender-lt p.plan.rings c.args.ring p.actor its in
    let count : Count = c.index-count.result.now in let inside : c.args.ring < length v.items = omega (arith, v.ok.0) in
    let at : get_elem? v.items c.args.ring ≡ some count = at_index v.items c.args.ring count inside c.index-count.ensures in
    let now : PassView g.row.M.Denot = pass_at c.send_on.new.place in let t : ℕ = c.in-Ok.ticket in
    let told = c.in-Ok.ensures.sent.1 in let e : now ≡ noted p t (Sent c.args.ring told.0 c.args.message) = told.1 in
    let some_left : c.pass.inside.left - 1 + 1 ≡ c.pass.inside.left = (let own : 1 + length p.events ≤ 2 ^ 56 = subst (λ (q : PassView g.row.M.Denot). 1 + length q.events ≤ 2 ^ 56) (sym c.pass.view_is) c.requires.left in let l = inv.left_is in omega arith) in
    record {
      resting = c.send_on.ensures.seat;
      sized = sized_after p now t (Sent c.args.ring told.0 c.args.message) e inv.sized;
      cells_are = cells_after p now t (Sent c.args.ring told.0 c.args.message) e c.pass.inside.cells inv.cells_are;
      left_is = left_after p now t (Sent c.args.ring told.0 c.args.message) e c.pass.inside.left (c.pass.inside.left - 1) inv.left_is some_left;
      counted = counts_after p now t (Sent c.args.ring told.0 c.args.message) e _ (counts_sent p t v.items inv.counted c.args.ring count at told.0 c.args.message);
    }

pub invariant_of-pass-in-Err : goal.invariant_of-pass-in-Err
invariant_of-pass-in-Err g c = let p : PassView g.row.M.Denot = pass_at c.pass.inside.place in let inv = c.pass.invariant in let v = c.pass.inside.counts in let long = inv.counted.long in
    let its : sender_at p.plan.rings c.args.ring ≡ suc p.actor = subst (λ (q : PassView g.row.M.Denot). sender_at q.plan.rings c.args.ring ≡ suc q.actor) (sym c.pass.view_is) c.requires.sender in
    let below = sender-lt p.plan.rings c.args.ring p.actor its in
    let count : Count = c.index-count.result.now in let inside : c.args.ring < length v.items = omega (arith, v.ok.0) in
    let at : get_elem? v.items c.args.ring ≡ some count = at_index v.items c.args.ring count inside c.index-count.ensures in
    let now : PassView g.row.M.Denot = pass_at c.send_on.new.place in let t : ℕ = c.in-Err.full.ticket in
    let e : now ≡ noted p t (Refused c.args.ring c.in-Err.full.seen) = c.in-Err.ensures.refused.3 in
    let some_left : c.pass.inside.left - 1 + 1 ≡ c.pass.inside.left = (let own : 1 + length p.events ≤ 2 ^ 56 = subst (λ (q : PassView g.row.M.Denot). 1 + length q.events ≤ 2 ^ 56) (sym c.pass.view_is) c.requires.left in let l = inv.left_is in omega arith) in
    record {
      resting = c.send_on.ensures.seat;
      sized = sized_after p now t (Refused c.args.ring c.in-Err.full.seen) e inv.sized;
      cells_are = cells_after p now t (Refused c.args.ring c.in-Err.full.seen) e c.pass.inside.cells inv.cells_are;
      left_is = left_after p now t (Refused c.args.ring c.in-Err.full.seen) e c.pass.inside.left (c.pass.inside.left - 1) inv.left_is some_left;
      counted = counts_after p now t (Refused c.args.ring c.in-Err.full.seen) e _ (counts_refused p t v.items inv.counted c.args.ring c.in-Err.full.seen);
    }
