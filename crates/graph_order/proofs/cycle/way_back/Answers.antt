use Rattle.std.proofs.Common.{[], ◌∙◌, arith}
use Rattle.std.proofs.lemmas.List.{get_or_read}
use Rattle.graph_order.proofs.Least.{way-on}
use Rattle.graph_order.proofs.Rows.{step-there}
use Rattle.graph_order.proofs.cycle.way_back.Goals as goal

pub next_on_way-last-requires-clause-some : goal.next_on_way-last-requires-clause-some
next_on_way-last-requires-clause-some c =
    let row = c.as_slice.ensures ∙ get_or_read c.args.rows.now c.loop-steps.steps c.index-rows-steps.result c.loop-steps.invariant.below c.index-rows-steps.is [] in
    step-there c.args.cables.now c.args.inst c.args.count c.loop-steps.steps c.loop-steps.last c.args.rows.now c.as_slice.result.now c.requires.within c.requires.searched.rows c.loop-steps.invariant.below row c.loop-steps.invariant.reached

pub loop-steps-preserved : goal.loop-steps-preserved
loop-steps-preserved c =
    let row = c.as_slice.ensures ∙ get_or_read c.args.rows.now c.loop-steps.steps c.index-rows-steps.result c.loop-steps.invariant.below c.index-rows-steps.is [] in
    way-on c.args.cables.now c.args.inst c.args.count c.loop-steps.steps c.loop-steps.last c.next_on_way-last.result c.args.rows.now c.as_slice.result.now c.loop-steps.cycle c.push-in-loop-steps.new.self c.requires.within c.requires.searched.rows (omega arith) row c.next_on_way-last.ensures c.in_ok-push-2.ensures.ok c.loop-steps.invariant
