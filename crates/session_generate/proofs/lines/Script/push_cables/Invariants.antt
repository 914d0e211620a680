use Rattle.session_generate.specs.Lines.{cable_lines}
use Rattle.session_generate.specs.Generated.{WritesEach}
use Rattle.session_generate.proofs.lines.Script.push_cables.Given as goal

-- the lines so far
abbrev pub invariant-loop-inst : goal.invariant-loop-inst
invariant-loop-inst l = WritesEach cable_lines l.inst l.fn.self l.self
