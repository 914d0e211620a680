use Rattle.cable_trace.proofs.MergedBeatKeeps.{merged_beat_keeps}
use Rattle.cable_trace.proofs.beat_laws.merged_keeps_beat.Goals as goal

pub returns : goal.returns
returns g c = λ blocks source target writer reader marks h m. merged_beat_keeps blocks source target writer reader marks h m
