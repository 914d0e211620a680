use Rattle.std.proofs.Common.{◌≡◌, ◌++◌, drop}
use Rattle.state_file.specs.StateText.{states_text}
use Rattle.state_file.proofs.writer.push_states.Given as goal

-- the states so far, and those that are left
abbrev pub invariant-loop-number : goal.invariant-loop-number
invariant-loop-number l = l.text ++ states_text l.urids l.number (drop l.number l.saves) ≡ l.fn.text ++ states_text l.urids 0 l.saves
