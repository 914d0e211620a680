use Rattle.std.proofs.Common.{refl, sym, subst, to_z, of_z, arith}
use Rattle.std.specs.Int.{w32}
use Rattle.std.proofs.lemmas.Int.{to_z-of_z}
use Rattle.std.specs.Prelude.{FitsSigned}
use Rattle.atom_core.specs.Value.{int, plain}
use Rattle.atom_core.specs.Spelling.{i32}
use Rattle.atom_core.proofs.Numbers.{i32-length}
use Rattle.atom_forge.proofs.forge.Forge.int.Goals as goal

pub atom-requires-clause-body : goal.atom-requires-clause-body
unfolding i32
atom-requires-clause-body c =
    let number = to_z w32 (of_z w32 c.args.v) in
    let fits = subst (FitsSigned w32) (sym (to_z-of_z w32 c.args.v c.ranges.v)) c.ranges.v in
    λ small. ∣ (plain (int number), refl, sym c.to_le_bytes.ensures, (fits, omega (arith, i32-length number))) ∣₁
