use Rattle.record_rules.proofs.Ending.{ends_in_turn}
use Rattle.record_rules.proofs.laws.blocks_end_in_turn.Goals as goal

pub returns : goal.returns
returns c = ends_in_turn
