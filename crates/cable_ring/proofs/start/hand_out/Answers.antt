use Rattle.std.proofs.Common.{rules, arith, refl, sym, ap, subst, ◌∙◌, ◌≡◌, ◌+◌, ◌*◌, ◌^◌, ◌<◌, ◌≤◌, ◌∷◌, [], List, ℕ, length, replicate}
use Rattle.cable_ring.specs.declared.view.View.{View}
use Rattle.cable_ring.specs.declared.view.View.TheVariants.{Desk}
use Rattle.cable_ring.specs.declared.view.Plan.{Plan}
use Rattle.cable_ring.specs.Opened.{AreOpened}
use Rattle.cable_ring.specs.declared.pass.Count.{Count}
use Rattle.cable_ring.specs.Passes.{PassView, pass_at, AreCounts}
use Rattle.cable_ring.specs.Planned.{plan_of}
use Rattle.cable_ring.specs.Steps.{Seated, handed_out, next_actor}
use Rattle.cable_ring.proofs.Opening.{may_hand_out}
use Rattle.cable_ring.proofs.Beginning.{no_count, begun_pass, begun_resting, begun_sized, begun_counts, filled_up, opened_none, opened_more}
use Rattle.cable_ring.proofs.start.hand_out.Goals as goal

pub split_seat-place-requires : goal.split_seat-place-requires
split_seat-place-requires g c = let inv = c.loop-actor.invariant in let same = c.requires.table.2 in let wide = c.requires.table.1.words in
    let actors : (plan_of c.args.top.now.key).actors ≡ c.args.layout.now.actors = ap (λ (q : Plan). q.actors) same in (
      inv.table ∙ c.requires.table.0,
      omega arith,
      may_hand_out (plan_of c.args.top.now.key) c.loop-actor.desk.id c.loop-actor.actor c.loop-actor.desk.me.0
          (ap (λ (m : Seated g.row.M.Denot). m.0) inv.desk ∙ ap (λ (q : Plan). Desk q c.loop-actor.actor []) (sym same)) (omega arith),
    )

pub invariant_of-push : goal.invariant_of-push
invariant_of-push g c = let plan : Plan = plan_of c.args.layout.now in let inv = c.loop-actor.invariant in let place = c.split_seat-place.result in let table = c.args.top.now.table_id in
    let of-table = c.split_seat-place.ensures.3 ∙ inv.table ∙ c.requires.table.0 in
    let begun = c.split_seat-place.ensures.4 ∙ ap (λ (m : Seated g.row.M.Denot). (next_actor m.0, [])) inv.desk in
    let pass : PassView g.row.M.Denot = pass_at place in
    let is = begun_pass table plan c.loop-actor.actor place of-table begun in
    let none : length pass.events ≡ 0 = ap (λ (q : PassView g.row.M.Denot). length q.events) is in
    let long : c.len-rings.result ≡ length c.args.layout.now.rings.items = c.len-rings.ensures ∙ c.args.layout.now.rings.ok.0 in
    let counts : c.resize.new.self.items ≡ replicate c.len-rings.result no_count = c.in_ok-resize.ensures.items ∙ filled_up c.in_ok-counts.counts.items _ c.len-rings.result c.in_ok-counts.ensures.items c.in_ok-counts.ensures.len in
    record {
      resting = begun_resting table plan c.loop-actor.actor place begun;
      sized = begun_sized table plan c.loop-actor.actor pass is c.requires.limits c.requires.table.1;
      cells_are = ap (λ (q : PassView g.row.M.Denot). q.plan.cells) (sym is);
      left_is = omega arith;
      counted = subst (λ (l : List Count). AreCounts l pass) (sym counts) (begun_counts table plan c.loop-actor.actor pass c.len-rings.result is long);
    }

pub loop-actor-preserved : goal.loop-actor-preserved
loop-actor-preserved g c = let plan : Plan = plan_of c.args.layout.now in let inv = c.loop-actor.invariant in let place = c.split_seat-place.result in let table = c.args.top.now.table_id in
    let of-table = c.split_seat-place.ensures.3 ∙ inv.table ∙ c.requires.table.0 in
    let begun = c.split_seat-place.ensures.4 ∙ ap (λ (m : Seated g.row.M.Denot). (next_actor m.0, [])) inv.desk in
    let is = begun_pass table plan c.loop-actor.actor place of-table begun in
    record {
      table = c.split_seat-place.ensures.0 ∙ inv.table;
      desk = c.split_seat-place.ensures.2 ∙ ap (λ (m : Seated g.row.M.Denot). (handed_out m.0, m.1)) inv.desk;
      opened = subst (λ (l : List (PassView g.row.M.Denot)). AreOpened table plan (c.loop-actor.actor + 1) l) (sym c.in_ok-push.ensures.items)
          (opened_more table plan c.loop-actor.actor c.loop-actor.passes.items (pass_at place) is inv.opened);
    }
