use Rattle.std.proofs.Common.{◌-◌, ◌≤◌, length}
use Rattle.turtle_lex.specs.Scans.{Goes}
use Rattle.turtle_lex.specs.Enclosure.{long_body}
use Rattle.turtle_lex.proofs.enclosed.long_body_end.Given as goal

abbrev pub invariant-loop-c : goal.invariant-loop-c
invariant-loop-c l = (l.quotes ≤ 2) × Goes (long_body l.enclosure 0) (long_body l.enclosure l.quotes) l.text l.from l.at

abbrev pub decreases-loop-c : goal.decreases-loop-c
decreases-loop-c l = length l.text - l.at
