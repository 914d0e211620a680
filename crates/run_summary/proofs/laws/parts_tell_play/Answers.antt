use Rattle.run_summary.proofs.Telling.{text_same}
use Rattle.run_summary.proofs.laws.parts_tell_play.Goals as goal

pub returns : goal.returns
returns g c run p command tally report tallies reports = text_same run p tally report tallies reports command
