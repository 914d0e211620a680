use Rattle.std.proofs.Common.{rules, arith, refl, sym, ap, subst, ◌∙◌, ◌≡◌, ◌<◌, [], List, ℕ, length, map}
use Rattle.std.proofs.lemmas.Iterator.Consumers.{YieldsList-turn}
use Rattle.std.proofs.lemmas.Iterator.Adapters.{YieldsList-from_vec}
use mathlib.Core.Option.{some}
use lib.ListN.{get_elem?, length-map}
use Rattle.atomic_table.proofs.Lists.{at_index}
use Rattle.cable_ring.specs.declared.view.Plan.{Plan}
use Rattle.cable_ring.specs.Passes.{PassView, trace_at, pass_at, seated}
use Rattle.cable_ring.specs.Planned.{plan_of}
use Rattle.cable_ring.specs.Steps.{Seated}
use Rattle.cable_ring.proofs.Gathering.{may_gather}
use Rattle.cable_ring.proofs.close.gather.Goals as goal

pub join_seat-requires : goal.join_seat-requires
join_seat-requires g c =
    let inv = c.loop-pass.invariant in
    let plan : Plan = plan_of c.args.top.now.key in
    let given = c.into_iter-pass-iterator.ensures.into_iter_gives in
    let turn = YieldsList-turn (YieldsList-from_vec {s = c.into_iter-pass-iterator.result} c.args.passes.items given.0 (given.1 ∙ c.args.passes.ok.0))
    c.loop-pass.yielded c.loop-pass.pass-iterator c.loop-pass.yielded_by c.next.result c.next.new.self c.in-Some.pass c.in-Some.is c.next.ensures.steps in
    let n : ℕ = length c.loop-pass.yielded in
    let pass : PassView g.row.M.Denot = c.in-Some.pass in
    let its = c.requires.passes.each n pass (at_index c.args.passes.items n pass turn.0 turn.1) in
    let place = c.into_place.result in
    let resting : place.me ≡ seated (pass_at place) = c.into_place.ensures.0 in
    let same : pass_at place ≡ pass = c.into_place.ensures.1 in (
      inv.table ∙ c.requires.table.0,
      ap (λ (p : PassView g.row.M.Denot). p.table) same ∙ its.0,
      ap (λ (m : Seated g.row.M.Denot). m.1) resting,
      c.requires.table.1,
      may_gather plan c.loop-pass.desk.id place.id plan.actors (map trace_at c.loop-pass.yielded)
          (record { actor = (pass_at place).actor; plan = (pass_at place).plan; trace = trace_at (pass_at place) }) c.loop-pass.desk.me.0 place.me.0
          (ap (λ (m : Seated g.row.M.Denot). m.0) inv.desk) (ap (λ (m : Seated g.row.M.Denot). m.0) resting)
          (ap (λ (p : PassView g.row.M.Denot). p.actor) same ∙ its.1 ∙ sym (length-map c.loop-pass.yielded trace_at)),
    )
