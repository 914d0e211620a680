use Rattle.cable_trace.proofs.SenderKeeps.{sender_sent}
use Rattle.cable_trace.proofs.laws.sender_sends.Goals as goal

pub returns : goal.returns
returns g c = λ cells ring ticket seen message sender taker h e above room. sender_sent cells ring sender taker h ticket seen message e above room
