use Rattle.std.proofs.Common.{rules, refl, sym, ap, subst, ◌∙◌, ◌≡◌, ◌+◌, ◌*◌, List, ℕ, length, set, replicate}
use Rattle.cable_ring.specs.declared.view.Plan.{Plan}
use Rattle.cable_ring.specs.Opened.{plan_with}
use Rattle.cable_ring.specs.Planned.{plan_of}
use Rattle.cable_ring.specs.Rule.{IsPlan}
use Rattle.cable_ring.proofs.Opening.{cable_begins_at}
use Rattle.cable_ring.proofs.cable.Cable.new.Goals as goal

pub vacant-requires : goal.vacant-requires
vacant-requires g c = let told : plan_of c.in_ok-layout.layout ≡ plan_with c.args.first c.args.cells c.args.actors c.args.rings.now = c.in_ok-layout.ensures in
    let blank : c.in_ok-words.words.items ≡ replicate (16 * length c.args.rings.now + 16) 0 = c.in_ok-words.ensures.items_if_clones_equal (λ y e. search rules) in
    cable_begins_at (plan_of c.in_ok-layout.layout) c.as_slice.result.now (length c.args.rings.now * c.args.cells) (subst (λ (q : Plan). IsPlan q) (sym told) c.requires.limits)
    (c.as_slice.ensures.value ∙ ap (λ (l : List ℕ). set l 0 c.args.first) blank ∙ (λ i. set (replicate (16 * length (sym told i).rings + 16) 0) 0 (sym told i).first))
    (λ i. length (sym told i).rings * (sym told i).cells)
