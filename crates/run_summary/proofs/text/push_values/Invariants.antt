use Rattle.std.proofs.Common.{◌≡◌, ◌++◌, drop, filter}
use Rattle.play_outcome.specs.Summary.{is_shown}
use Rattle.run_summary.specs.Parts.{value_lines}
use Rattle.run_summary.proofs.text.push_values.Given as goal

-- the lines so far, and those of the ports and values that are left
abbrev pub invariant-loop-port : goal.invariant-loop-port
invariant-loop-port l =
    l.text ++ value_lines l.name (filter is_shown (drop l.port-index l.ports)) l.left ≡ l.fn.text ++ value_lines l.name (filter is_shown l.ports) l.values
