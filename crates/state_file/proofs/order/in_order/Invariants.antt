use Rattle.std.proofs.Common.{◌≡◌, [], map, fold}
use Rattle.state_file.specs.Order.{placed}
use Rattle.state_file.proofs.order.in_order.Given as goal

-- the keys so far, and those of the rows that are left
abbrev pub invariant-loop-key : goal.invariant-loop-key
invariant-loop-key l = (goal.iterator-loop-key).can_next l.key-iterator × (goal.iterator-loop-key).is_finite l.key-iterator
    × (fold (placed l.urids) l.keys.items (map (λ row. row.0) l.key-iterator) ≡ fold (placed l.urids) [] (map (λ row. row.0) l.props))
