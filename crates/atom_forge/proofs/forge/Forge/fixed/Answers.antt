use Rattle.std.proofs.Common.{refl, sym, arith}
use Rattle.atom_core.specs.Value.{fixed, plain}
use Rattle.atom_core.proofs.Numbers.{i64-length}
use Rattle.atom_forge.proofs.Pieces.{signed_of}
use Rattle.atom_forge.proofs.forge.Forge.fixed.Goals as goal

pub atom-requires-clause-body : goal.atom-requires-clause-body
atom-requires-clause-body c =
    let signed = signed_of _ c.to_le_bytes.result c.to_le_bytes.ensures in
    λ small. ∣ (plain (fixed signed.number), refl, sym signed.spells, (signed.small, omega (arith, i64-length signed.number))) ∣₁
