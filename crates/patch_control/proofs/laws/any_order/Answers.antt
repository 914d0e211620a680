use Rattle.patch_control.proofs.Orders.{any_order}
use Rattle.patch_control.proofs.laws.any_order.Goals as goal

pub returns : goal.returns
returns c = any_order
