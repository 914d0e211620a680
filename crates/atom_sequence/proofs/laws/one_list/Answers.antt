use Rattle.atom_sequence.proofs.Unique.{one_list}
use Rattle.atom_sequence.proofs.laws.one_list.Goals as goal

pub returns : goal.returns
returns c = one_list
