use Rattle.std.proofs.Common.{◌≡◌, ◌+◌, length}
use Rattle.graph_order.specs.Search.{AreRows, IsApartBelow}
use Rattle.graph_order.proofs.cycle.rows_back.Given as goal

-- the rows so far, none of which leads back
abbrev pub invariant-loop-steps : goal.invariant-loop-steps
invariant-loop-steps l = (length l.rows ≡ l.steps + 1) × AreRows l.cables l.inst l.count l.rows × IsApartBelow l.cables l.inst (l.steps + 1)
