use Rattle.std.proofs.Common.{subst}
use Rattle.atom_forge.specs.Forged.{IsForged}
use Rattle.atom_forge.proofs.forge.Forge.mark.Goals as goal

pub returns-clause-forged : goal.returns-clause-forged
returns-clause-forged c = subst IsForged c.self.view_is c.self.invariant.forged
