use Rattle.std.proofs.Common.{◌≡◌}
use Rattle.std.specs.List.{list_all}
use Rattle.std.specs.Prelude.{Some, is_some}
use Rattle.state_file.specs.States.{about, bytes_in}
use Rattle.state_file.proofs.rules.are_encoded.Given as goal

-- all pass if those that are left do
abbrev pub invariant-loop-property : goal.invariant-loop-property
invariant-loop-property l = (goal.iterator-loop-property).can_next l.property-iterator × (goal.iterator-loop-property).is_finite l.property-iterator
    × (list_all (λ property. is_some (bytes_in l.store property)) l.property-iterator ≡ list_all (λ property. is_some (bytes_in l.store property)) (about l.store (Some l.node)))
