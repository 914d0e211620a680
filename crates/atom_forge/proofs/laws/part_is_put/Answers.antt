use Rattle.atom_forge.proofs.Containers.{part_is_put}
use Rattle.atom_forge.proofs.laws.part_is_put.Goals as goal

pub returns : goal.returns
returns c = part_is_put
