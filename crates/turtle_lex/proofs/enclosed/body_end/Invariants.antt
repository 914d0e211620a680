use Rattle.std.proofs.Common.{◌-◌, length}
use Rattle.turtle_lex.specs.Scans.{Goes}
use Rattle.turtle_lex.specs.Enclosure.{body}
use Rattle.turtle_lex.proofs.enclosed.body_end.Given as goal

abbrev pub invariant-loop-c : goal.invariant-loop-c
invariant-loop-c l = Goes (body l.enclosure) (body l.enclosure) l.text l.from l.at

abbrev pub decreases-loop-c : goal.decreases-loop-c
decreases-loop-c l = length l.text - l.at
