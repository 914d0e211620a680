use Rattle.cable_trace.proofs.SenderKeeps.{sender_refused}
use Rattle.cable_trace.proofs.laws.sender_is_refused.Goals as goal

pub returns : goal.returns
returns g c = λ cells ring ticket seen sender taker h e above head full. sender_refused cells ring sender taker h ticket seen e above head full
