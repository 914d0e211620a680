use Rattle.std.proofs.Common.{sym, subst, ◌∙◌}
use Rattle.std.proofs.Math.Logic.{∥∥₁_map}
use Rattle.atom_core.specs.Atoms.{AreAtoms}
use Rattle.atom_core.proofs.Readings.{tuple_here, holds_atoms}
use Rattle.atom_core.proofs.view.AtomView.parts.Goals as goal

pub over-requires : goal.over-requires
over-requires c =
    let bytes = c.args.self.now.bytes.now in
    let kind = sym c.kind.ensures.place ∙ c.if-kind-ne-TUPLE.false in
    ∥∥₁_map c.args.self.now.spelled (λ a.
    let t = tuple_here bytes a.0 a.1 kind in
    subst AreAtoms (sym c.body.ensures.place) (t.parts, t.spells))

pub returns : goal.returns
returns c = λ v spells.
    holds_atoms c.args.self.now.bytes.now v c.over.result spells (sym c.kind.ensures.place ∙ c.if-kind-ne-TUPLE.false) (c.over.ensures ∙ c.body.ensures.place)
