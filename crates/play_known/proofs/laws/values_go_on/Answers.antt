use Rattle.play_known.proofs.Keeping.{values_go_on}
use Rattle.play_known.proofs.laws.values_go_on.Goals as goal

pub returns : goal.returns
returns g c = values_go_on
