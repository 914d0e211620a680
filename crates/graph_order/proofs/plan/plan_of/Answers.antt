use Rattle.std.proofs.Common.{◌≡◌, ℕ, ◌+◌, ◌<◌, Option, length, ◌∙◌, ap, subst, arith}
use Rattle.std.specs.Option.{IfSome, IfNone}
use Rattle.std.proofs.lemmas.List.{length_push}
use Rattle.graph_order.specs.Plans.{IsNext, IsStuck}
use Rattle.graph_order.proofs.Growing.{growing-none, growing-put, planned}
use Rattle.graph_order.proofs.Stuck.{cycle-from-stuck}
use Rattle.graph_order.proofs.plan.plan_of.Goals as goal

pub loop-place-init : goal.loop-place-init
loop-place-init c = (growing-none c.args.cables.now c.args.count c.in_ok-plan.plan c.in_ok-plan.ensures.order c.in_ok-plan.ensures.place, ap length c.in_ok-plan.ensures.order)

pub returns-in-None-clause-none : goal.returns-in-None-clause-none
returns-in-None-clause-none c =
    let Missing : Option ℕ → Type 0 = λ next. IfNone next (IsStuck c.args.cables.now c.args.count c.loop-place.plan.order) in
    let long : length c.loop-place.plan.order ≡ c.loop-place.place = (c.loop-place.invariant).1 in
    let few : length c.loop-place.plan.order < c.args.count = omega arith in
    cycle-from-stuck c.args.cables.now c.args.count c.loop-place.plan.order c.requires (subst Missing c.in-None.is c.next.ensures.none) few

pub loop-place-preserved : goal.loop-place-preserved
loop-place-preserved c =
    let Next : Option ℕ → Type 0 = λ next. IfSome next (IsNext c.args.cables.now c.args.count c.loop-place.plan.order) in
    let long : length c.loop-place.plan.order ≡ c.loop-place.place = (c.loop-place.invariant).1 in (
      growing-put c.args.cables.now c.args.count c.loop-place.plan c.put.new.self c.in-Some.inst c.loop-place.place (c.loop-place.invariant).0 long (omega arith) (subst Next c.in-Some.is c.next.ensures.some) c.in_ok-put-in-Some.ensures.order c.in_ok-put-in-Some.ensures.place,
      ap length c.in_ok-put-in-Some.ensures.order ∙ length_push c.loop-place.plan.order c.in-Some.inst ∙ ap (λ (n : ℕ). n + 1) long,
    )

pub returns-clause-plan : goal.returns-clause-plan
returns-clause-plan c =
    let long : length c.loop-place.plan.order ≡ c.loop-place.place = (c.loop-place.invariant).1 in
    planned c.args.cables.now c.args.count c.loop-place.plan (c.loop-place.invariant).0 (omega arith)
