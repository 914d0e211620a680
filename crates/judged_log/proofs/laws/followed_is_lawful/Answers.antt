use Rattle.judged_log.proofs.Following.{lawful}
use Rattle.judged_log.proofs.laws.followed_is_lawful.Goals as goal

pub returns : goal.returns
returns c = lawful
