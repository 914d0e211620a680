use Rattle.one_record.proofs.Acting.{acts_are_one}
use Rattle.one_record.proofs.control_acts_once.Goals as goal

pub returns : goal.returns
returns g c = acts_are_one
