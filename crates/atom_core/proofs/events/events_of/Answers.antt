use Rattle.std.proofs.Common.{◌≡◌, ◌≤◌, List, ℕ, length, drop, sym, ap, subst, ◌∙◌}
use Rattle.std.proofs.Math.Bridge.{le_prop}
use Rattle.std.proofs.Math.Logic.{∥∥₁_elim, ∥∥₁_map}
use Rattle.atom_core.specs.Atoms.{AreEvents}
use Rattle.atom_core.proofs.Readings.{sequence_here, holds_events}
use Rattle.atom_core.proofs.events.events_of.Goals as goal

pub behind-requires : goal.behind-requires
behind-requires c =
    let bytes = c.args.view.bytes.now in
    let kind = sym c.kind.ensures.place ∙ c.if-kind-ne-SEQUENCE.false in
    let room : 8 ≤ length (drop 8 bytes) = ∥∥₁_elim c.args.view.spelled le_prop (λ a. (sequence_here bytes a.0 a.1 kind).room) in
    subst (λ (b : List ℕ). 8 ≤ length b) (sym c.body.ensures.place) room

pub over-requires : goal.over-requires
over-requires c =
    let bytes = c.args.view.bytes.now in
    let kind = sym c.kind.ensures.place ∙ c.if-kind-ne-SEQUENCE.false in
    let same : c.behind.result.now ≡ drop 8 (drop 8 bytes) = c.behind.ensures ∙ ap (drop 8) c.body.ensures.place in
    ∥∥₁_map c.args.view.spelled (λ a.
    let t = sequence_here bytes a.0 a.1 kind in
    subst AreEvents (sym same) (t.parts, t.spells))

pub returns : goal.returns
returns c = λ v spells.
    holds_events c.args.view.bytes.now v c.over.result spells (sym c.kind.ensures.place ∙ c.if-kind-ne-SEQUENCE.false)
    (c.over.ensures ∙ c.behind.ensures ∙ ap (drop 8) c.body.ensures.place)
