use Rattle.session_states.proofs.OneStates.{one_answer}
use Rattle.session_states.proofs.reading.one_answer.Goals as goal

pub returns : goal.returns
returns c = one_answer
