use Rattle.block_signals.proofs.Lent.{filled_is_ready}
use Rattle.block_signals.proofs.laws.filled_is_ready.Goals as goal

pub returns : goal.returns
returns c = filled_is_ready
