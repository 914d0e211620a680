use Rattle.std.proofs.Common.{◌≡◌}
use Rattle.std.specs.List.{list_all}
use Rattle.state_file.specs.Rules.{has_bytes}
use Rattle.state_file.specs.States.{states_in}
use Rattle.state_file.proofs.rules.have_bytes.Given as goal

-- all states pass if those that are left do
abbrev pub invariant-loop-state : goal.invariant-loop-state
invariant-loop-state l = (goal.iterator-loop-state).can_next l.state-iterator × (goal.iterator-loop-state).is_finite l.state-iterator
    × (list_all (has_bytes l.store) l.state-iterator ≡ list_all (has_bytes l.store) (states_in l.store))
