use Rattle.session_generate.specs.Lines.{action_line}
use Rattle.session_generate.specs.Generated.{WritesEach}
use Rattle.session_generate.proofs.lines.Script.push_actions.Given as goal

-- the lines so far
abbrev pub invariant-loop-number : goal.invariant-loop-number
invariant-loop-number l = WritesEach action_line l.number l.fn.self l.self
