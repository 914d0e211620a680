use Rattle.std.proofs.Common.{refl, arith}
use Rattle.atom_core.specs.Value.{tuple, holding, none}
use Rattle.atom_core.specs.Spelling.{u32}
use Rattle.atom_sequence.proofs.merger.Merger.new.Goals as goal

pub over-requires : goal.over-requires
unfolding u32
over-requires c = ∣ (holding tuple none, record { fits = (tt, omega arith, tt); bytes_are = refl }) ∣₁
