use Rattle.std.proofs.Common.{◌≡◌, take}
use Rattle.setup_shape.proofs.order_of.Given as goal

abbrev pub invariant-loop-inst : goal.invariant-loop-inst
invariant-loop-inst l = l.order ≡ take l.inst-index l.inst-items
