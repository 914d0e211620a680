use Rattle.port_atoms.proofs.Listed.{events_spelled}
use Rattle.port_atoms.proofs.laws.events_are_spelled.Goals as goal

pub returns : goal.returns
returns c = events_spelled
