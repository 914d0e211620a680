use Rattle.atom_value.proofs.Read.{value_spelled, events_spelled}
use Rattle.atom_value.proofs.laws.spelled_is_read.Goals as goal

pub returns : goal.returns
returns c = record { value = value_spelled; events = events_spelled }
