use Rattle.record_law.proofs.Turns.{takes_come_in_turn}
use Rattle.record_law.proofs.laws.takes_come_in_turn.Goals as goal

pub returns : goal.returns
returns c = takes_come_in_turn
