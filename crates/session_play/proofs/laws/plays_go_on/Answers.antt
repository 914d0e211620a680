use Rattle.session_play.proofs.Plays.{plays_go_on}
use Rattle.session_play.proofs.laws.plays_go_on.Goals as goal

pub returns : goal.returns
returns g c = plays_go_on
