use Rattle.session_setup.proofs.SomeAnswer.{some_setup, some_setup_of_bytes}
use Rattle.session_setup.proofs.laws.some_setup.Goals as goal

pub returns-clause-file : goal.returns-clause-file
returns-clause-file c = some_setup

pub returns-clause-bytes : goal.returns-clause-bytes
returns-clause-bytes c = some_setup_of_bytes
