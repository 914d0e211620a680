use Rattle.std.proofs.Common.{◌≡◌, ◌≢◌, ◌+◌, length, take, drop, arith, sym, ap, subst, ◌∙◌}
use Rattle.std.proofs.Math.Bridge.{le_prop}
use Rattle.std.proofs.Math.Logic.{∥∥₁_elim, ∥∥₁_map}
use Rattle.std.proofs.lemmas.Bool.{eqb-false}
use Rattle.atom_core.specs.Place.{size_at, padded}
use Rattle.atom_core.specs.Answer.{IsAtom}
use Rattle.atom_core.specs.Atoms.{AreAtoms}
use Rattle.atom_core.proofs.Firsts.{cut_of, takes_first}
use Rattle.atom_core.proofs.parts.cut.Goals as goal

pub u32_at-requires : goal.u32_at-requires
u32_at-requires c =
    let bytes = c.args.bytes.now in
    let some : length bytes ≢ 0 = eqb-false (length bytes) 0 (sym c.is_empty.ensures ∙ c.if-is_empty.false) in
    ∥∥₁_elim c.requires le_prop (λ a. omega (arith, (cut_of bytes a.0 a.1 some).header))

pub front-requires : goal.front-requires
front-requires c =
    let bytes = c.args.bytes.now in
    let some : length bytes ≢ 0 = eqb-false (length bytes) 0 (sym c.is_empty.ensures ∙ c.if-is_empty.false) in
    ∥∥₁_elim c.requires le_prop (λ a. omega (arith, c.u32_at.ensures, (cut_of bytes a.0 a.1 some).fits))

pub over-view-requires : goal.over-view-requires
over-view-requires c =
    let bytes = c.args.bytes.now in
    let some : length bytes ≢ 0 = eqb-false (length bytes) 0 (sym c.is_empty.ensures ∙ c.if-is_empty.false) in
    let same : c.front.result.now ≡ take (8 + size_at bytes 0) bytes = c.front.ensures ∙ ap (λ n. take (8 + n) bytes) c.u32_at.ensures in
    ∥∥₁_map c.requires (λ a. subst IsAtom (sym same) (cut_of bytes a.0 a.1 some).atom)

pub behind-requires : goal.behind-requires
behind-requires c =
    let bytes = c.args.bytes.now in
    let some : length bytes ≢ 0 = eqb-false (length bytes) 0 (sym c.is_empty.ensures ∙ c.if-is_empty.false) in
    let same : c.padded.result ≡ padded (8 + size_at bytes 0) = c.padded.ensures ∙ ap (λ n. padded (8 + n)) c.u32_at.ensures in
    ∥∥₁_elim c.requires le_prop (λ a. omega (arith, same, (cut_of bytes a.0 a.1 some).next))

pub returns-clause-first : goal.returns-clause-first
returns-clause-first c = λ parts spells.
    let bytes = c.args.bytes.now in
    let some : length bytes ≢ 0 = eqb-false (length bytes) 0 (sym c.is_empty.ensures ∙ c.if-is_empty.false) in
    takes_first bytes parts c.over-view.result c.behind.result.now spells some
    (c.over-view.ensures ∙ c.front.ensures ∙ ap (λ n. take (8 + n) bytes) c.u32_at.ensures)
    (c.behind.ensures ∙ ap (λ n. drop n bytes) (c.padded.ensures ∙ ap (λ n. padded (8 + n)) c.u32_at.ensures))

pub returns-clause-rest : goal.returns-clause-rest
returns-clause-rest c =
    let bytes = c.args.bytes.now in
    let some : length bytes ≢ 0 = eqb-false (length bytes) 0 (sym c.is_empty.ensures ∙ c.if-is_empty.false) in
    let same : c.behind.result.now ≡ drop (padded (8 + size_at bytes 0)) bytes =
    c.behind.ensures ∙ ap (λ n. drop n bytes) (c.padded.ensures ∙ ap (λ n. padded (8 + n)) c.u32_at.ensures) in
    ∥∥₁_map c.requires (λ a. subst AreAtoms (sym same) (cut_of bytes a.0 a.1 some).rest)
