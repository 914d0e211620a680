use Rattle.std.proofs.Common.{sym, ap, ◌∙◌, ℤ, Option, Some}
use Rattle.std.specs.Int.{w64}
use Rattle.std.proofs.lemmas.Int.{to_z-of_z}
use Rattle.std.proofs.Math.Bridge.{le_prop}
use Rattle.std.proofs.Math.Logic.{∥∥₁_elim}
use Rattle.lv_base.specs.declared.number.Fixed.{Fixed}
use Rattle.atom_core.proofs.Readings.{fixed_long, fixed_is}
use Rattle.atom_core.proofs.view.AtomView.fixed.Goals as goal

pub i64_at-requires : goal.i64_at-requires
i64_at-requires c =
    let kind = sym c.kind.ensures.place ∙ c.if-kind-ne-FIXED.false in
    ∥∥₁_elim c.args.self.now.spelled le_prop (λ a. fixed_long c.args.self.now.bytes.now a.0 a.1 kind)

pub returns : goal.returns
returns c = λ v spells.
    let kind = sym c.kind.ensures.place ∙ c.if-kind-ne-FIXED.false in
    let number = to_z-of_z w64 c.i64_at.result (record { sfits = c.i64_at.type_inv }) ∙ c.i64_at.ensures in
    let some : ℤ → Option Fixed = λ n. Some (record { 0 = n }) in
    ap some number ∙ fixed_is c.args.self.now.bytes.now v spells kind
