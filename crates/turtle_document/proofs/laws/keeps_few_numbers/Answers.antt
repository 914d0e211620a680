use Rattle.turtle_document.proofs.FewNumbers.{keeps_few_numbers}
use Rattle.turtle_document.proofs.laws.keeps_few_numbers.Goals as goal

pub returns : goal.returns
returns c = keeps_few_numbers
