use Rattle.cable_trace.proofs.SenderKeeps.{sender_goes, sender_draws_one}
use Rattle.cable_trace.proofs.laws.sender_goes_on.Goals as goal

pub returns-clause-same : goal.returns-clause-same
returns-clause-same g c = λ cells ring sender taker new h same e. sender_goes cells ring sender taker h new same e

pub returns-clause-draws : goal.returns-clause-draws
returns-clause-draws g c = λ cells ring ticket sender taker new h same e above. sender_draws_one cells ring sender taker h new ticket same e above
