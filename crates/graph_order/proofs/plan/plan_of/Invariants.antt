use Rattle.std.proofs.Common.{◌≡◌, length}
use Rattle.graph_order.specs.Plans.{IsGrowing}
use Rattle.graph_order.proofs.plan.plan_of.Given as goal

-- the instances so far stand in their places
abbrev pub invariant-loop-place : goal.invariant-loop-place
invariant-loop-place l = IsGrowing l.cables l.count l.plan × (length l.plan.order ≡ l.place)
