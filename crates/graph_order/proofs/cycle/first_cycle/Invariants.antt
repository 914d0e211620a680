use Rattle.std.proofs.Common.{ℕ, ◌<◌}
use Rattle.graph_order.specs.Search.{IsOnNone}
use Rattle.graph_order.proofs.cycle.first_cycle.Given as goal

-- none so far is on a cycle
abbrev pub invariant-loop-inst : goal.invariant-loop-inst
invariant-loop-inst l = (less : ℕ) → less < l.inst → IsOnNone l.cables less
