use Rattle.std.proofs.Common.{◌≡◌, ◌++◌}
use Rattle.replay_core.specs.Each.{each}
use Rattle.replay_core.specs.Summary.{inst_line, name_at}
use Rattle.replay_core.proofs.summary.push_insts.Given as goal

-- the lines of the instances so far
abbrev pub invariant-loop-i : goal.invariant-loop-i
invariant-loop-i l = l.text ≡ l.fn.text ++ each l.i (λ i. inst_line (name_at l.session i) i l.steps)
