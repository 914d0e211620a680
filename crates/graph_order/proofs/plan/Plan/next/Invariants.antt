use Rattle.std.proofs.Common.{◌≡◌, ℕ, ◌<◌, false}
use Rattle.graph_order.specs.Plans.{is_ready}
use Rattle.graph_order.proofs.plan.Plan.next.Given as goal

-- none so far is ready
abbrev pub invariant-loop-inst : goal.invariant-loop-inst
invariant-loop-inst l = (other : ℕ) → other < l.inst → is_ready l.cables l.self.order other ≡ false
