use Rattle.graph_order.proofs.Least.{IsWay}
use Rattle.graph_order.proofs.cycle.way_back.Given as goal

abbrev pub decreases-loop-steps : goal.decreases-loop-steps
decreases-loop-steps l = l.steps

-- as many cables are left as lead back, and the least list over these ends the cycle
abbrev pub invariant-loop-steps : goal.invariant-loop-steps
invariant-loop-steps l = IsWay l.cables l.inst l.steps l.last l.rows l.cycle
