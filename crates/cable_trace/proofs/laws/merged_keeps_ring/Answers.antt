use Rattle.cable_trace.proofs.MergedKeeps.{merged_keeps}
use Rattle.cable_trace.proofs.MergeOfLogs.{merge_of_logs}
use Rattle.cable_trace.proofs.laws.merged_keeps_ring.Goals as goal

pub returns-clause-logs : goal.returns-clause-logs
returns-clause-logs g c = λ ring source target traces logs marks r h m. merge_of_logs logs marks m ring source target traces r h

pub returns-clause-rules : goal.returns-clause-rules
returns-clause-rules g c = λ cells ring source target sender taker marks h m. merged_keeps cells ring source target sender taker marks h m
