use Rattle.play_known.proofs.Takes.{takes_stay_sent}
use Rattle.play_known.proofs.laws.takes_stay_sent.Goals as goal

pub returns : goal.returns
returns c = takes_stay_sent
