use Rattle.turtle_document.proofs.FewNumbers.{uses_its_numbers}
use Rattle.turtle_document.proofs.laws.uses_its_numbers.Goals as goal

pub returns : goal.returns
returns c = uses_its_numbers
