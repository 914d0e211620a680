use Rattle.cable_trace.proofs.BeatKeeps.{above_stores, above_loads}
use Rattle.cable_trace.proofs.beat_laws.beat_is_above.Goals as goal

pub returns : goal.returns
returns g c = λ ticket trace above. (above_stores ticket trace above, above_loads ticket trace above)
