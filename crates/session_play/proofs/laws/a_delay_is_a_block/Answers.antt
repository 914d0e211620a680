use Rattle.session_play.proofs.Signals.{delay_is_a_block}
use Rattle.session_play.proofs.laws.a_delay_is_a_block.Goals as goal

pub returns : goal.returns
returns g c = delay_is_a_block
