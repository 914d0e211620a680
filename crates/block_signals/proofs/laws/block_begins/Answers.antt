use Rattle.block_signals.proofs.Boards.{block_begins}
use Rattle.block_signals.proofs.laws.block_begins.Goals as goal

pub returns : goal.returns
returns g c = block_begins
