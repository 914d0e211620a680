use Rattle.std.proofs.Common.{refl, sym, subst, to_z, of_z, arith}
use Rattle.std.specs.Int.{w64}
use Rattle.std.proofs.lemmas.Int.{to_z-of_z}
use Rattle.std.specs.Prelude.{FitsSigned}
use Rattle.atom_core.specs.Value.{long, plain}
use Rattle.atom_core.specs.Spelling.{i64}
use Rattle.atom_core.proofs.Numbers.{i64-length}
use Rattle.atom_forge.proofs.forge.Forge.long.Goals as goal

pub atom-requires-clause-body : goal.atom-requires-clause-body
unfolding i64
atom-requires-clause-body c =
    let number = to_z w64 (of_z w64 c.args.v) in
    let fits = subst (FitsSigned w64) (sym (to_z-of_z w64 c.args.v c.ranges.v)) c.ranges.v in
    λ small. ∣ (plain (long number), refl, sym c.to_le_bytes.ensures, (fits, omega (arith, i64-length number))) ∣₁
