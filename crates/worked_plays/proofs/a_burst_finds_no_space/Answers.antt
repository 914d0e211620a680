use Rattle.worked_plays.proofs.Rows.{a_burst}
use Rattle.worked_plays.proofs.a_burst_finds_no_space.Goals as goal

pub returns : goal.returns
returns c = a_burst
