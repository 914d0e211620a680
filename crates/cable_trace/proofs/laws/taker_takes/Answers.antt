use Rattle.cable_trace.proofs.TakerKeeps.{taker_moved, taker_took}
use Rattle.cable_trace.proofs.laws.taker_takes.Goals as goal

pub returns-clause-moves : goal.returns-clause-moves
returns-clause-moves g c = λ cells ring message sender taker h e next. taker_moved cells ring sender taker h message e next

pub returns-clause-ticket : goal.returns-clause-ticket
returns-clause-ticket g c = λ cells ring ticket message sender taker h e sends above. taker_took cells ring sender taker h ticket message e sends above
