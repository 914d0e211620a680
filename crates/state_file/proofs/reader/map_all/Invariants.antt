use Rattle.state_file.specs.Ready.{AreMappedBefore}
use Rattle.state_file.specs.Rules.{uris_for}
use Rattle.state_file.specs.States.{states_in}
use Rattle.state_file.proofs.reader.map_all.Given as goal

-- what stands before the states that are left is mapped
abbrev pub invariant-loop-state : goal.invariant-loop-state
invariant-loop-state l = (goal.iterator-loop-state).can_next l.state-iterator × (goal.iterator-loop-state).is_finite l.state-iterator
    × AreMappedBefore l.fn.urids (uris_for l.store (states_in l.store)) (uris_for l.store l.state-iterator) l.urids
