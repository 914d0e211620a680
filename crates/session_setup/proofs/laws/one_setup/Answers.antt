use Rattle.session_setup.proofs.OneAnswer.{one_setup, one_setup_of_bytes}
use Rattle.session_setup.proofs.laws.one_setup.Goals as goal

pub returns-clause-file : goal.returns-clause-file
returns-clause-file c = one_setup

pub returns-clause-bytes : goal.returns-clause-bytes
returns-clause-bytes c = one_setup_of_bytes
