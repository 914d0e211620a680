use Rattle.std.proofs.Common.{length}
use Rattle.step_record.proofs.Lines.{AreRead}
use Rattle.step_record.proofs.reader.push_lines.Given as goal

-- the lines before the rest were read
abbrev pub invariant-loop-rest : goal.invariant-loop-rest
invariant-loop-rest l = AreRead l.lines l.steps l.rest

abbrev pub decreases-loop-rest : goal.decreases-loop-rest
decreases-loop-rest l = length l.rest
