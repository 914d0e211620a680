use Rattle.atom_sequence.proofs.Stable.{stable_order}
use Rattle.atom_sequence.proofs.laws.stable_order.Goals as goal

pub returns : goal.returns
returns c = stable_order
