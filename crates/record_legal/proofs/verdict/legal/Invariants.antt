use Rattle.std.proofs.Common.{length}
use Rattle.record_legal.proofs.Reading.{IsReading}
use Rattle.record_legal.proofs.verdict.legal.Given as goal

-- the entries so far break no rule, and those that are left decide the verdict
abbrev pub invariant-loop-entry : goal.invariant-loop-entry
invariant-loop-entry l = IsReading l.fn.shape l.fn.steps l.judge l.line l.ended l.later

abbrev pub decreases-loop-entry : goal.decreases-loop-entry
decreases-loop-entry l = length l.later
