use Rattle.whole_setup.proofs.OneEnd.{some_whole, some_whole_of_bytes}
use Rattle.whole_setup.proofs.laws.some_whole.Goals as goal

pub returns-clause-file : goal.returns-clause-file
returns-clause-file c = some_whole

pub returns-clause-bytes : goal.returns-clause-bytes
returns-clause-bytes c = some_whole_of_bytes
