use Rattle.block_signals.proofs.Merges.{Merges}
use Rattle.block_signals.proofs.events.merge_all.Given as goal

abbrev pub invariant-loop-port : goal.invariant-loop-port
invariant-loop-port l = Merges l.initial.ins l.ins l.messages l.outlets l.inputs l.port
