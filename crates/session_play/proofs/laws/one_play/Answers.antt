use Rattle.session_play.proofs.Plays.{has_one_play}
use Rattle.session_play.proofs.laws.one_play.Goals as goal

pub returns : goal.returns
returns g c = has_one_play
