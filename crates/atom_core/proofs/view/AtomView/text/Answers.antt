use Rattle.std.proofs.Common.{◌≤◌, length, drop, sym, ap, ◌∙◌, subst, take, ◌-◌, ℕ, List, Some}
use Rattle.std.proofs.Math.Bridge.{le_prop}
use Rattle.std.proofs.Math.Logic.{∥∥₁_elim}
use Rattle.atom_core.proofs.Readings.{text_long, text_is}
use Rattle.atom_core.proofs.view.AtomView.text.Goals as goal

pub without_zero-requires : goal.without_zero-requires
without_zero-requires c =
    let kind = sym c.kind.ensures.place ∙ c.if-kind-ne-STRING.false in
    let long : 1 ≤ length (drop 8 c.args.self.now.bytes.now) =
    ∥∥₁_elim c.args.self.now.spelled le_prop (λ a. text_long c.args.self.now.bytes.now a.0 a.1 kind) in
    subst (λ (b : List ℕ). 1 ≤ length b) (sym c.body.ensures.place) long

pub returns : goal.returns
returns c = λ v spells.
    let kind = sym c.kind.ensures.place ∙ c.if-kind-ne-STRING.false in
    ap (λ t. Some t) (c.without_zero.ensures ∙ ap (λ b. take (length b - 1) b) c.body.ensures.place) ∙ text_is c.args.self.now.bytes.now v spells kind
