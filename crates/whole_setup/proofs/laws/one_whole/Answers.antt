use Rattle.whole_setup.proofs.OneEnd.{one_whole, one_whole_of_bytes}
use Rattle.whole_setup.proofs.laws.one_whole.Goals as goal

pub returns-clause-file : goal.returns-clause-file
returns-clause-file c = one_whole

pub returns-clause-bytes : goal.returns-clause-bytes
returns-clause-bytes c = one_whole_of_bytes
