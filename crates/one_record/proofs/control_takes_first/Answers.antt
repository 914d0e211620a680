use Rattle.one_record.proofs.Next.{takes_are_first, sends_are_first}
use Rattle.one_record.proofs.control_takes_first.Goals as goal

pub returns-clause-takes : goal.returns-clause-takes
returns-clause-takes g c = takes_are_first

pub returns-clause-sends : goal.returns-clause-sends
returns-clause-sends g c = sends_are_first
