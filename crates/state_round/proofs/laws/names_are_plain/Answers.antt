use Rattle.state_round.proofs.Names.{names_are_plain}
use Rattle.state_round.proofs.laws.names_are_plain.Goals as goal

pub returns : goal.returns
returns c = names_are_plain
