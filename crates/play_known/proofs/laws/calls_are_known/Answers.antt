use Rattle.play_known.proofs.CallKept.{call_keeps_values}
use Rattle.play_known.proofs.CallKnown.{call_is_known}
use Rattle.play_known.proofs.laws.calls_are_known.Goals as goal

pub returns-clause-known : goal.returns-clause-known
returns-clause-known g c = call_is_known

pub returns-clause-keep : goal.returns-clause-keep
returns-clause-keep g c = call_keeps_values
