use Rattle.std.proofs.Common.{refl}
use Rattle.block_signals.proofs.laws.board_begins_blank.Goals as goal

pub returns : goal.returns
returns g c = λ setup urids. refl
