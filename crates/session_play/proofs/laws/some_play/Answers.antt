use Rattle.session_play.proofs.Plays.{has_some_play}
use Rattle.session_play.proofs.laws.some_play.Goals as goal

pub returns : goal.returns
returns g c = has_some_play
