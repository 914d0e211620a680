use Rattle.block_signals.proofs.Boards.{board_gives_inputs}
use Rattle.block_signals.proofs.laws.board_gives_inputs.Goals as goal

pub returns : goal.returns
returns g c = board_gives_inputs
