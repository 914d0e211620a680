use Rattle.std.proofs.Common.{◌≡◌, ◌++◌, length}
use Rattle.state_file.specs.StateText.{properties_text}
use Rattle.state_file.proofs.writer.push_lines.Given as goal

-- the lines so far, and those of the keys that are left
abbrev pub invariant-loop-key : goal.invariant-loop-key
invariant-loop-key l = l.text ++ properties_text l.urids l.props l.left ≡ l.fn.text ++ properties_text l.urids l.props l.keys

abbrev pub decreases-loop-key : goal.decreases-loop-key
decreases-loop-key l = length l.left
