use Rattle.std.proofs.Common.{◌≡◌, ◌≢◌, ◌+◌, length, take, drop, arith, sym, ap, subst, ◌∙◌, to_z, of_z}
use Rattle.std.specs.Int.{w64}
use Rattle.std.proofs.lemmas.Int.{to_z-of_z}
use Rattle.std.proofs.Math.Bridge.{le_prop}
use Rattle.std.proofs.Math.Logic.{∥∥₁_elim, ∥∥₁_map}
use Rattle.std.proofs.lemmas.Bool.{eqb-false}
use Rattle.atom_core.specs.Place.{size_at, padded}
use Rattle.atom_core.specs.Answer.{IsAtom}
use Rattle.atom_core.specs.Atoms.{AreEvents}
use Rattle.atom_core.proofs.Timed.{cut_of, takes_event}
use Rattle.atom_core.proofs.events.cut.Goals as goal

pub i64_at-time-requires : goal.i64_at-time-requires
i64_at-time-requires c =
    let bytes = c.args.bytes.now in
    let some : length bytes ≢ 0 = eqb-false (length bytes) 0 (sym c.is_empty.ensures ∙ c.if-is_empty.false) in
    ∥∥₁_elim c.requires le_prop (λ a. (cut_of bytes a.0 a.1 some).room)

pub behind-after-requires : goal.behind-after-requires
behind-after-requires c =
    let bytes = c.args.bytes.now in
    let some : length bytes ≢ 0 = eqb-false (length bytes) 0 (sym c.is_empty.ensures ∙ c.if-is_empty.false) in
    ∥∥₁_elim c.requires le_prop (λ a. (cut_of bytes a.0 a.1 some).room)

pub u32_at-requires : goal.u32_at-requires
u32_at-requires c =
    let bytes = c.args.bytes.now in
    let some : length bytes ≢ 0 = eqb-false (length bytes) 0 (sym c.is_empty.ensures ∙ c.if-is_empty.false) in
    let after : c.behind-after.result.now ≡ drop 8 bytes = c.behind-after.ensures in
    let long : length c.behind-after.result.now ≡ length (drop 8 bytes) = ap length after in
    ∥∥₁_elim c.requires le_prop (λ a. omega (arith, long, (cut_of bytes a.0 a.1 some).header))

pub front-requires : goal.front-requires
front-requires c =
    let bytes = c.args.bytes.now in
    let some : length bytes ≢ 0 = eqb-false (length bytes) 0 (sym c.is_empty.ensures ∙ c.if-is_empty.false) in
    let after : c.behind-after.result.now ≡ drop 8 bytes = c.behind-after.ensures in
    let long : length c.behind-after.result.now ≡ length (drop 8 bytes) = ap length after in
    let size : c.u32_at.result ≡ size_at (drop 8 bytes) 0 = c.u32_at.ensures ∙ ap (λ b. size_at b 0) after in
    ∥∥₁_elim c.requires le_prop (λ a. omega (arith, long, size, (cut_of bytes a.0 a.1 some).fits))

pub over-view-requires : goal.over-view-requires
over-view-requires c =
    let bytes = c.args.bytes.now in
    let some : length bytes ≢ 0 = eqb-false (length bytes) 0 (sym c.is_empty.ensures ∙ c.if-is_empty.false) in
    let after : c.behind-after.result.now ≡ drop 8 bytes = c.behind-after.ensures in
    let long : length c.behind-after.result.now ≡ length (drop 8 bytes) = ap length after in
    let size : c.u32_at.result ≡ size_at (drop 8 bytes) 0 = c.u32_at.ensures ∙ ap (λ b. size_at b 0) after in
    let atom : c.front.result.now ≡ take (8 + size_at (drop 8 bytes) 0) (drop 8 bytes) =
    c.front.ensures ∙ ap (λ n. take (8 + n) c.behind-after.result.now) size ∙ ap (take (8 + size_at (drop 8 bytes) 0)) after in
    ∥∥₁_map c.requires (λ a. subst IsAtom (sym atom) (cut_of bytes a.0 a.1 some).atom)

pub behind-requires : goal.behind-requires
behind-requires c =
    let bytes = c.args.bytes.now in
    let some : length bytes ≢ 0 = eqb-false (length bytes) 0 (sym c.is_empty.ensures ∙ c.if-is_empty.false) in
    let after : c.behind-after.result.now ≡ drop 8 bytes = c.behind-after.ensures in
    let long : length c.behind-after.result.now ≡ length (drop 8 bytes) = ap length after in
    let size : c.u32_at.result ≡ size_at (drop 8 bytes) 0 = c.u32_at.ensures ∙ ap (λ b. size_at b 0) after in
    let same : c.padded.result ≡ padded (8 + size_at (drop 8 bytes) 0) = c.padded.ensures ∙ ap (λ n. padded (8 + n)) size in
    ∥∥₁_elim c.requires le_prop (λ a. omega (arith, same, long, (cut_of bytes a.0 a.1 some).next))

pub returns-clause-first : goal.returns-clause-first
returns-clause-first c = λ parts spells.
    let bytes = c.args.bytes.now in
    let some : length bytes ≢ 0 = eqb-false (length bytes) 0 (sym c.is_empty.ensures ∙ c.if-is_empty.false) in
    let after : c.behind-after.result.now ≡ drop 8 bytes = c.behind-after.ensures in
    let long : length c.behind-after.result.now ≡ length (drop 8 bytes) = ap length after in
    let size : c.u32_at.result ≡ size_at (drop 8 bytes) 0 = c.u32_at.ensures ∙ ap (λ b. size_at b 0) after in
    let atom : c.front.result.now ≡ take (8 + size_at (drop 8 bytes) 0) (drop 8 bytes) =
    c.front.ensures ∙ ap (λ n. take (8 + n) c.behind-after.result.now) size ∙ ap (take (8 + size_at (drop 8 bytes) 0)) after in
    let rest : c.behind.result.now ≡ drop (padded (8 + size_at (drop 8 bytes) 0)) (drop 8 bytes) =
    c.behind.ensures ∙ ap (λ n. drop n c.behind-after.result.now) (c.padded.ensures ∙ ap (λ n. padded (8 + n)) size)
    ∙ ap (drop (padded (8 + size_at (drop 8 bytes) 0))) after in
    let number = to_z-of_z w64 c.i64_at-time.result (record { sfits = c.i64_at-time.type_inv }) ∙ c.i64_at-time.ensures in
    takes_event bytes parts (to_z w64 (of_z w64 c.i64_at-time.result), c.over-view.result) c.behind.result.now spells some
    number (c.over-view.ensures ∙ atom) rest

pub returns-clause-rest : goal.returns-clause-rest
returns-clause-rest c =
    let bytes = c.args.bytes.now in
    let some : length bytes ≢ 0 = eqb-false (length bytes) 0 (sym c.is_empty.ensures ∙ c.if-is_empty.false) in
    let after : c.behind-after.result.now ≡ drop 8 bytes = c.behind-after.ensures in
    let long : length c.behind-after.result.now ≡ length (drop 8 bytes) = ap length after in
    let size : c.u32_at.result ≡ size_at (drop 8 bytes) 0 = c.u32_at.ensures ∙ ap (λ b. size_at b 0) after in
    let rest : c.behind.result.now ≡ drop (padded (8 + size_at (drop 8 bytes) 0)) (drop 8 bytes) =
    c.behind.ensures ∙ ap (λ n. drop n c.behind-after.result.now) (c.padded.ensures ∙ ap (λ n. padded (8 + n)) size)
    ∙ ap (drop (padded (8 + size_at (drop 8 bytes) 0))) after in
    ∥∥₁_map c.requires (λ a. subst AreEvents (sym rest) (cut_of bytes a.0 a.1 some).rest)
