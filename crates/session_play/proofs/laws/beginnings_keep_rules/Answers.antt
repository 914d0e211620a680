use Rattle.session_play.proofs.Prefixes.{beginnings_keep}
use Rattle.session_play.proofs.laws.beginnings_keep_rules.Goals as goal

pub returns : goal.returns
returns g c = beginnings_keep
