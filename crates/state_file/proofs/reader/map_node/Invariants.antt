use Rattle.std.specs.Prelude.{Some}
use Rattle.state_file.specs.Ready.{AreMappedBefore}
use Rattle.state_file.specs.Rules.{uris_of}
use Rattle.state_file.specs.States.{about}
use Rattle.state_file.proofs.reader.map_node.Given as goal

-- what stands before the properties that are left is mapped
abbrev pub invariant-loop-property : goal.invariant-loop-property
invariant-loop-property l = (goal.iterator-loop-property).can_next l.property-iterator × (goal.iterator-loop-property).is_finite l.property-iterator
    × AreMappedBefore l.fn.urids (uris_of l.store (about l.store (Some l.node))) (uris_of l.store l.property-iterator) l.urids
