use Rattle.worked_plays.proofs.Rows.{an_answer}
use Rattle.worked_plays.proofs.an_answer_is_told.Goals as goal

pub returns : goal.returns
returns c = an_answer
