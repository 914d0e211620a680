use Rattle.state_round.proofs.RoundTrip.{written_is_read}
use Rattle.state_round.proofs.laws.written_is_read.Goals as goal

pub returns : goal.returns
returns c = written_is_read
