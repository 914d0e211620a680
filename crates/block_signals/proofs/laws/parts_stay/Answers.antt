use Rattle.block_signals.proofs.Parts.{outputs_stay, values_stay}
use Rattle.block_signals.proofs.laws.parts_stay.Goals as goal

pub returns-clause-outputs : goal.returns-clause-outputs
returns-clause-outputs c = outputs_stay

pub returns-clause-values : goal.returns-clause-values
returns-clause-values c = values_stay
