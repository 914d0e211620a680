use Rattle.cable_trace.proofs.TakerKeeps.{taker_looked}
use Rattle.cable_trace.proofs.laws.taker_looks.Goals as goal

pub returns : goal.returns
returns g c = λ cells ring ticket count sender taker h e above all more. taker_looked cells ring sender taker h ticket count e above all more
