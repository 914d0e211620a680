use Rattle.std.proofs.Common.{take, length}
use Rattle.graph_order.specs.Search.{is_marked, IsRowOf}
use Rattle.graph_order.specs.Wiring.{feeds_some}
use Rattle.graph_order.proofs.cycle.sources.Given as goal

-- the sources of the cables so far
abbrev pub invariant-loop-cable : goal.invariant-loop-cable
invariant-loop-cable l = IsRowOf (feeds_some (take l.cable-index l.cables) (is_marked l.marked)) (length l.marked) l.row
