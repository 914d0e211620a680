use Rattle.atom_forge.proofs.Stacks.{sequence_begins}
use Rattle.atom_forge.proofs.forge.Forge.sequence.Goals as goal

pub container-requires-clause-begins : goal.container-requires-clause-begins
container-requires-clause-begins c = sequence_begins
