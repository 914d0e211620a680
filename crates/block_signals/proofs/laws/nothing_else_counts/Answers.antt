use Rattle.block_signals.proofs.Boards.{nothing_else_counts}
use Rattle.block_signals.proofs.laws.nothing_else_counts.Goals as goal

pub returns : goal.returns
returns g c = nothing_else_counts
