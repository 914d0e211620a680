use Rattle.atom_forge.proofs.Containers.{back_is_before}
use Rattle.atom_forge.proofs.laws.back_is_before.Goals as goal

pub returns : goal.returns
returns c = back_is_before
