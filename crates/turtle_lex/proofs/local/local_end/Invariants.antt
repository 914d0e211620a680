use Rattle.std.proofs.Common.{◌-◌, ◌≤◌, length}
use Rattle.turtle_lex.specs.Names.{HasLocal}
use Rattle.turtle_lex.proofs.local.local_end.Given as goal

abbrev pub invariant-loop-c : goal.invariant-loop-c
invariant-loop-c l = (l.last ≤ l.at) × HasLocal l.text l.from l.last l.at

abbrev pub decreases-loop-c : goal.decreases-loop-c
decreases-loop-c l = length l.text - l.at
