use Rattle.turtle_grammar.specs.Pattern.{Pattern, times}
use Rattle.turtle_grammar.specs.Terminals.{hex}
use Rattle.turtle_lex.specs.Places.{IsPlace}
use Rattle.turtle_lex.specs.Scans.{Goes, IsFrame}
use Rattle.turtle_lex.proofs.escape.hex_run_end.Given as goal

abbrev pub decreases-loop-left : goal.decreases-loop-left
decreases-loop-left l = l.left

abbrev pub invariant-loop-left : goal.invariant-loop-left
invariant-loop-left l =
    IsPlace l.text l.at × ((frame : Pattern → Pattern) → IsFrame frame → Goes (frame (times l.count hex)) (frame (times l.left hex)) l.text l.from l.at)
