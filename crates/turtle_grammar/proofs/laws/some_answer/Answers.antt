use Rattle.turtle_grammar.proofs.SomeAnswer.{some_answer}
use Rattle.turtle_grammar.proofs.laws.some_answer.Goals as goal

pub returns : goal.returns
returns c = some_answer
