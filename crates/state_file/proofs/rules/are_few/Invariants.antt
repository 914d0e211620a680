use Rattle.std.proofs.Common.{◌≡◌, length}
use Rattle.std.specs.Prelude.{Some, nat_le, ◌&&◌}
use Rattle.state_file.specs.Rules.{size_of, are_few}
use Rattle.state_file.specs.States.{about}
use Rattle.state_file.proofs.rules.are_few.Given as goal

-- they have room if those that are left have what is left of it
abbrev pub invariant-loop-property : goal.invariant-loop-property
invariant-loop-property l = (goal.iterator-loop-property).can_next l.property-iterator × (goal.iterator-loop-property).is_finite l.property-iterator
    × ((nat_le (length l.property-iterator) l.properties_left && nat_le (size_of l.store l.property-iterator) l.bytes_left) ≡ are_few l.store (about l.store (Some l.node)))
