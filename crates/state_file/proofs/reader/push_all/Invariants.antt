use Rattle.std.proofs.Common.{◌≡◌, ◌++◌, map}
use Rattle.state_file.specs.Reading.{saved_of}
use Rattle.state_file.specs.Ready.{AreReadable}
use Rattle.state_file.specs.States.{states_in}
use Rattle.state_file.proofs.reader.push_all.Given as goal

-- the states so far, and those that are left
abbrev pub invariant-loop-state : goal.invariant-loop-state
invariant-loop-state l = (goal.iterator-loop-state).can_next l.state-iterator × (goal.iterator-loop-state).is_finite l.state-iterator
    × AreReadable l.store l.urids l.state-iterator
    × (l.saves.items ++ map (saved_of l.store l.urids) l.state-iterator ≡ l.fn.saves.items ++ map (saved_of l.store l.urids) (states_in l.store))
