use Rattle.session_play.proofs.Endings.{ends_by_answers}
use Rattle.session_play.proofs.laws.calls_end_by_answers.Goals as goal

pub returns : goal.returns
returns g c = ends_by_answers
