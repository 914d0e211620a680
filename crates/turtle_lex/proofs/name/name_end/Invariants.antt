use Rattle.std.proofs.Common.{◌-◌, ◌≤◌, length}
use Rattle.turtle_lex.specs.Names.{HasName}
use Rattle.turtle_lex.proofs.name.name_end.Given as goal

abbrev pub invariant-loop-c : goal.invariant-loop-c
invariant-loop-c l = (l.last ≤ l.at) × HasName l.text l.from l.last l.at

abbrev pub decreases-loop-c : goal.decreases-loop-c
decreases-loop-c l = length l.text - l.at
