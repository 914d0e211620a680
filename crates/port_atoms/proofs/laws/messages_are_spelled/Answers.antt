use Rattle.port_atoms.proofs.Said.{messages_spelled}
use Rattle.port_atoms.proofs.laws.messages_are_spelled.Goals as goal

pub returns : goal.returns
returns c = messages_spelled
