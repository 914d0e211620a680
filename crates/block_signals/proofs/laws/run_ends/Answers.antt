use Rattle.block_signals.proofs.Boards.{run_ends}
use Rattle.block_signals.proofs.laws.run_ends.Goals as goal

pub returns : goal.returns
returns g c = run_ends
