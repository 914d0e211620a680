use Rattle.cable_trace.proofs.BeatKeeps.{beat_fresh, last_fresh}
use Rattle.cable_trace.proofs.beat_laws.beat_begins.Goals as goal

pub returns : goal.returns
returns g c = (beat_fresh, last_fresh)
