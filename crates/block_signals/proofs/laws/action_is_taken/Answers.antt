use Rattle.block_signals.proofs.Boards.{action_is_taken}
use Rattle.block_signals.proofs.laws.action_is_taken.Goals as goal

pub returns : goal.returns
returns g c = action_is_taken
