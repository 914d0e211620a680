use Rattle.play_stands.proofs.Calls.{standing_is_lawful}
use Rattle.play_stands.proofs.standing_is_lawful.Goals as goal

pub returns : goal.returns
returns g c = standing_is_lawful
