use Rattle.play_known.proofs.Keeping.{both_are_all}
use Rattle.play_known.proofs.laws.both_are_all.Goals as goal

pub returns : goal.returns
returns g c = both_are_all
