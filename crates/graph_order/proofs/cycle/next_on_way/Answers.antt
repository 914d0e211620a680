use Rattle.std.proofs.Common.{◌<◌, arith}
use Rattle.graph_order.specs.Search.{is_marked}
use Rattle.graph_order.proofs.Feeding.{feeds_some-one, feeds-within}
use Rattle.graph_order.proofs.cycle.next_on_way.Goals as goal

pub unreachable-requires : goal.unreachable-requires
unreachable-requires c =
    let one = feeds_some-one c.args.cables.now (is_marked c.args.row.now) c.args.from c.requires.some in
    let there = feeds-within c.args.cables.now c.args.count c.args.from one.0 c.requires.within one.1 in
    let below : one.0 < c.loop-inst.inst = omega (arith, there.1) in
    c.loop-inst.invariant one.0 below one.1 one.2
