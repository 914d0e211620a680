use Rattle.std.proofs.Common.{◌≡◌, ℕ, ◌<◌, true}
use Rattle.graph_order.specs.Search.{is_marked}
use Rattle.graph_order.specs.Wiring.{feeds}
use Rattle.graph_order.proofs.cycle.next_on_way.Given as goal

-- none so far is both fed and marked
abbrev pub invariant-loop-inst : goal.invariant-loop-inst
invariant-loop-inst l = (other : ℕ) → other < l.inst → feeds l.cables l.from other ≡ true → is_marked l.row other ≡ true → ⊥
