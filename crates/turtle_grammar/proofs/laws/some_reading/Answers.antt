use Rattle.turtle_grammar.proofs.SomeAnswer.{some_reading}
use Rattle.turtle_grammar.proofs.laws.some_reading.Goals as goal

pub returns : goal.returns
returns c = some_reading
