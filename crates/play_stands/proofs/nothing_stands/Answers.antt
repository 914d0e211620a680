use Rattle.play_stands.proofs.Entries.{nothing_stands}
use Rattle.play_stands.proofs.nothing_stands.Goals as goal

pub returns : goal.returns
returns g c = nothing_stands
