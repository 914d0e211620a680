use Rattle.state_round.proofs.RoundTrip.{read_is_written}
use Rattle.state_round.proofs.laws.read_is_written.Goals as goal

pub returns : goal.returns
returns c = read_is_written
