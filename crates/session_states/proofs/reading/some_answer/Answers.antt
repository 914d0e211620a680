use Rattle.session_states.proofs.SomeStates.{some_answer}
use Rattle.session_states.proofs.reading.some_answer.Goals as goal

pub returns : goal.returns
returns c = some_answer
