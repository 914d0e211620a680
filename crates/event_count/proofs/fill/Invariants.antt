use Rattle.event_count.specs.Awaiting.{AwaitsEvent}
use Rattle.event_count.proofs.fill.Given as goal

-- events may follow
abbrev pub invariant-loop-frame : goal.invariant-loop-frame
invariant-loop-frame l = AwaitsEvent l.forge
