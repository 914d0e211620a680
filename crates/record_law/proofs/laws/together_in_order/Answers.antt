use Rattle.record_law.proofs.Together.{together_in_order}
use Rattle.record_law.proofs.laws.together_in_order.Goals as goal

pub returns : goal.returns
returns c = together_in_order
