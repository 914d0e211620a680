use Rattle.std.proofs.Common.{sym, ap, ◌∙◌, Some}
use Rattle.std.proofs.Math.Bridge.{le_prop}
use Rattle.std.proofs.Math.Logic.{∥∥₁_elim}
use Rattle.atom_core.proofs.Readings.{urid_long, urid_is}
use Rattle.atom_core.proofs.view.AtomView.urid.Goals as goal

pub u32_at-requires : goal.u32_at-requires
u32_at-requires c =
    let kind = sym c.kind.ensures.place ∙ c.if-kind-ne-URID.false in
    ∥∥₁_elim c.args.self.now.spelled le_prop (λ a. urid_long c.args.self.now.bytes.now a.0 a.1 kind)

pub returns : goal.returns
returns c = λ v spells.
    let kind = sym c.kind.ensures.place ∙ c.if-kind-ne-URID.false in
    ap (λ n. Some n) c.u32_at.ensures ∙ urid_is c.args.self.now.bytes.now v spells kind
