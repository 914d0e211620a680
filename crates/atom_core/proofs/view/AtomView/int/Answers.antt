use Rattle.std.proofs.Common.{sym, ap, ◌∙◌, Some}
use Rattle.std.specs.Int.{w32}
use Rattle.std.proofs.lemmas.Int.{to_z-of_z}
use Rattle.std.proofs.Math.Bridge.{le_prop}
use Rattle.std.proofs.Math.Logic.{∥∥₁_elim}
use Rattle.atom_core.proofs.Readings.{int_long, int_is}
use Rattle.atom_core.proofs.view.AtomView.int.Goals as goal

pub i32_at-requires : goal.i32_at-requires
i32_at-requires c =
    let kind = sym c.kind.ensures.place ∙ c.if-kind-ne-INT.false in
    ∥∥₁_elim c.args.self.now.spelled le_prop (λ a. int_long c.args.self.now.bytes.now a.0 a.1 kind)

pub returns : goal.returns
returns c = λ v spells.
    let kind = sym c.kind.ensures.place ∙ c.if-kind-ne-INT.false in
    let number = to_z-of_z w32 c.i32_at.result (record { sfits = c.i32_at.type_inv }) ∙ c.i32_at.ensures in
    ap (λ n. Some n) number ∙ int_is c.args.self.now.bytes.now v spells kind
