use Rattle.session_play.proofs.Besides.{is_lawful_besides}
use Rattle.session_play.proofs.laws.lawful_besides.Goals as goal

pub returns : goal.returns
returns g c = is_lawful_besides
