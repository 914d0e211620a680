use Rattle.session_generate.specs.Lines.{inst_line}
use Rattle.session_generate.specs.Generated.{WritesEach}
use Rattle.session_generate.proofs.lines.Script.push_insts.Given as goal

-- the lines so far
abbrev pub invariant-loop-inst : goal.invariant-loop-inst
invariant-loop-inst l = WritesEach inst_line l.inst l.fn.self l.self
