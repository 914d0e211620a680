use Rattle.std.proofs.Common.{arith}
use Rattle.graph_order.proofs.Least.{first-of}
use Rattle.graph_order.proofs.cycle.first_cycle.Goals as goal

pub unreachable-requires : goal.unreachable-requires
unreachable-requires c = first-of c.args.cables.now c.args.count c.requires.within (c.requires.some).0 (c.requires.some).1 (λ less below. c.loop-inst.invariant less (omega arith))
