use Rattle.std.proofs.Common.{◌≤◌}
use Rattle.triple_list.proofs.Runs.{IsWritten}
use Rattle.triple_list.proofs.escape.push_escaped.Given as goal

-- what was copied, and the run that wasn't, are the text so far
abbrev pub invariant-loop-at : goal.invariant-loop-at
invariant-loop-at l = (l.copied ≤ l.at) × IsWritten l.fn.into l.copied l.into l.at l.text
