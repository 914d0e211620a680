use Rattle.port_atoms.proofs.Listed.{properties_spelled}
use Rattle.port_atoms.proofs.laws.properties_are_spelled.Goals as goal

pub returns : goal.returns
returns c = properties_spelled
