use Rattle.std.proofs.Common.{◌≡◌, length}
use Rattle.state_file.specs.States.{states_in}
use Rattle.state_file.proofs.states.StatesLeftIterator.next.Given as goal

abbrev pub invariant-loop-row : goal.invariant-loop-row
invariant-loop-row l = states_in l.self-inside.rows ≡ l.fn.self

abbrev pub decreases-loop-row : goal.decreases-loop-row
decreases-loop-row l = length l.self-inside.rows
