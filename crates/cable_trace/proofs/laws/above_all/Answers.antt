use Rattle.cable_trace.proofs.Above.{above_sends, above_takes}
use Rattle.cable_trace.proofs.laws.above_all.Goals as goal

pub returns : goal.returns
returns g c = λ ring ticket trace above. (above_sends ring ticket trace above, above_takes ring ticket trace above)
