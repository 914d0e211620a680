use Rattle.std.proofs.Common.{sym, ap, ◌∙◌, Some}
use Rattle.std.specs.Int.{w64}
use Rattle.std.proofs.lemmas.Int.{to_z-of_z}
use Rattle.std.proofs.Math.Bridge.{le_prop}
use Rattle.std.proofs.Math.Logic.{∥∥₁_elim}
use Rattle.atom_core.proofs.Readings.{long_long, long_is}
use Rattle.atom_core.proofs.view.AtomView.long.Goals as goal

pub i64_at-requires : goal.i64_at-requires
i64_at-requires c =
    let kind = sym c.kind.ensures.place ∙ c.if-kind-ne-LONG.false in
    ∥∥₁_elim c.args.self.now.spelled le_prop (λ a. long_long c.args.self.now.bytes.now a.0 a.1 kind)

pub returns : goal.returns
returns c = λ v spells.
    let kind = sym c.kind.ensures.place ∙ c.if-kind-ne-LONG.false in
    let number = to_z-of_z w64 c.i64_at.result (record { sfits = c.i64_at.type_inv }) ∙ c.i64_at.ensures in
    ap (λ n. Some n) number ∙ long_is c.args.self.now.bytes.now v spells kind
