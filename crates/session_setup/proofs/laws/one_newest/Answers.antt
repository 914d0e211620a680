use Rattle.session_setup.proofs.Versions.{one_newest, some_newest}
use Rattle.session_setup.proofs.laws.one_newest.Goals as goal

pub returns-clause-at_most : goal.returns-clause-at_most
returns-clause-at_most c = one_newest

pub returns-clause-at_least : goal.returns-clause-at_least
returns-clause-at_least c = some_newest
