use Rattle.std.proofs.Common.{refl}
use Rattle.atom_core.specs.Value.{string, plain}
use Rattle.atom_forge.proofs.forge.Forge.string.Goals as goal

pub atom-requires-clause-body : goal.atom-requires-clause-body
atom-requires-clause-body c = λ small. ∣ (plain (string c.args.v.now), refl, refl, (c.requires.text, small)) ∣₁
