use Rattle.generated_session.proofs.Lengths.{at_most}
use Rattle.generated_session.proofs.Whole as whole
use Rattle.generated_session.proofs.is_session.Goals as goal

pub returns-clause-session : goal.returns-clause-session
returns-clause-session c = whole.is_session

pub returns-clause-short : goal.returns-clause-short
returns-clause-short c = at_most
