use Rattle.std.proofs.Common.{◌≤◌, length, take}
use Rattle.triple_store.specs.Index.{AreIndexed}
use Rattle.triple_store.proofs.store.drop_from.Given as goal

abbrev pub invariant-loop-left : goal.invariant-loop-left
invariant-loop-left l = (l.keep ≤ l.left) × (l.left ≤ length l.rows) × AreIndexed l.subjects (take l.left l.rows)

abbrev pub decreases-loop-left : goal.decreases-loop-left
decreases-loop-left l = l.left
