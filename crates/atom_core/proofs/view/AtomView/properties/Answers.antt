use Rattle.std.proofs.Common.{◌≡◌, ◌≤◌, List, ℕ, length, drop, sym, ap, subst, ◌∙◌}
use Rattle.std.proofs.Math.Bridge.{le_prop}
use Rattle.std.proofs.Math.Logic.{∥∥₁_elim, ∥∥₁_map}
use Rattle.atom_core.specs.Atoms.{AreProperties}
use Rattle.atom_core.proofs.Readings.{object_here, holds_properties}
use Rattle.atom_core.proofs.view.AtomView.properties.Goals as goal

pub behind-requires : goal.behind-requires
behind-requires c =
    let bytes = c.args.self.now.bytes.now in
    let kind = sym c.kind.ensures.place ∙ c.if-kind-ne-OBJECT.false in
    let room : 8 ≤ length (drop 8 bytes) = ∥∥₁_elim c.args.self.now.spelled le_prop (λ a. (object_here bytes a.0 a.1 kind).room) in
    subst (λ (b : List ℕ). 8 ≤ length b) (sym c.body.ensures.place) room

pub over-requires : goal.over-requires
over-requires c =
    let bytes = c.args.self.now.bytes.now in
    let kind = sym c.kind.ensures.place ∙ c.if-kind-ne-OBJECT.false in
    let same : c.behind.result.now ≡ drop 8 (drop 8 bytes) = c.behind.ensures ∙ ap (drop 8) c.body.ensures.place in
    ∥∥₁_map c.args.self.now.spelled (λ a.
    let t = object_here bytes a.0 a.1 kind in
    subst AreProperties (sym same) (t.parts, t.spells))

pub returns : goal.returns
returns c = λ v spells.
    holds_properties c.args.self.now.bytes.now v c.over.result spells (sym c.kind.ensures.place ∙ c.if-kind-ne-OBJECT.false)
    (c.over.ensures ∙ c.behind.ensures ∙ ap (drop 8) c.body.ensures.place)
