use Rattle.turtle_document.proofs.Outcomes.{every_outcome}
use Rattle.turtle_document.proofs.laws.some_outcome.Goals as goal

pub returns : goal.returns
returns c = every_outcome
