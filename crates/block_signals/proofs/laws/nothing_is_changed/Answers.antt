use Rattle.block_signals.proofs.Taking.{nothing_is_changed}
use Rattle.block_signals.proofs.laws.nothing_is_changed.Goals as goal

pub returns : goal.returns
returns c = nothing_is_changed
