use Rattle.play_known.proofs.Moments.{known_goes_on}
use Rattle.play_known.proofs.laws.known_goes_on.Goals as goal

pub returns : goal.returns
returns g c = known_goes_on
