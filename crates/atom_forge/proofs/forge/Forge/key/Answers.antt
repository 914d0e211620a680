use Rattle.std.proofs.Common.{List, ℕ, ◌∷◌, [], ◌++◌, ap, arith}
use Rattle.atom_core.specs.Value.{keyed}
use Rattle.atom_core.specs.Spelling.{u32}
use Rattle.atom_forge.specs.declared.level.Holds.TheVariants.{Properties}
use Rattle.atom_forge.proofs.forge.Forge.key.Goals as goal

pub lead-requires : goal.lead-requires
unfolding u32
lead-requires c =
    (Properties, keyed c.args.key 0, c.requires, (omega (arith, c.ranges.key), omega arith), ap (λ (b : List ℕ). b ++ 0 ∷ 0 ∷ 0 ∷ 0 ∷ []) c.to_le_bytes.ensures)
