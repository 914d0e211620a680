use Rattle.atom_forge.proofs.Containers.{container_is_atom}
use Rattle.atom_forge.proofs.laws.container_is_atom.Goals as goal

pub returns : goal.returns
returns c = container_is_atom
