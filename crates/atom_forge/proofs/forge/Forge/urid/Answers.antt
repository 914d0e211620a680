use Rattle.std.proofs.Common.{ℕ, List, refl, sym, subst, arith}
use Rattle.atom_core.specs.Value.{urid, plain}
use Rattle.atom_core.proofs.Numbers.{u32-length}
use Rattle.atom_core.specs.Spelling.{u32}
use Rattle.atom_forge.specs.Forged.{PutsBody}
use Rattle.atom_forge.proofs.forge.Forge.urid.Goals as goal

pub returns : goal.returns
unfolding u32
returns c = subst (λ (b : List ℕ). PutsBody c.args.self.now 4 b c.atom.result c.atom.new.self) c.to_le_bytes.ensures c.atom.ensures

pub atom-requires-clause-body : goal.atom-requires-clause-body
unfolding u32
atom-requires-clause-body c = λ small. ∣ (plain (urid c.args.v), refl, sym c.to_le_bytes.ensures, (omega (arith, c.ranges.v), omega (arith, u32-length c.args.v))) ∣₁
