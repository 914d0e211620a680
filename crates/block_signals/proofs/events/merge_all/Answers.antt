use Rattle.std.proofs.Common.{◌≡◌, refl, slice_get, Some, arith}
use Rattle.std.proofs.lemmas.Option.{slice_get_read, slice_get_within}
use Rattle.block_signals.proofs.Merges.{merges_none, can_next, merges_more}
use Rattle.block_signals.proofs.events.merge_all.Goals as goal

pub merge_one-requires : goal.merge_one-requires
merge_one-requires c =
    let at : slice_get c.args.inputs.now c.loop-port.port ≡ Some c.index-inputs-port.result =
    slice_get_read c.args.inputs.now _ c.loop-port.port _ refl c.loop-port-test.true c.index-inputs-port.is in
    can_next c.args.ins.now c.loop-port.ins c.args.messages.now c.args.outlets.now c.args.inputs.now c.loop-port.port c.index-inputs-port.result
    c.loop-port.invariant (c.requires.can c.loop-port.port c.index-inputs-port.result at)

pub loop-port-init : goal.loop-port-init
loop-port-init c = merges_none _ _ _ _

pub loop-port-preserved : goal.loop-port-preserved
loop-port-preserved c =
    let at : slice_get c.args.inputs.now c.loop-port.port ≡ Some c.index-inputs-port.result =
    slice_get_read c.args.inputs.now _ c.loop-port.port _ refl c.loop-port-test.true c.index-inputs-port.is in
    let can = can_next c.args.ins.now c.loop-port.ins c.args.messages.now c.args.outlets.now c.args.inputs.now c.loop-port.port c.index-inputs-port.result
    c.loop-port.invariant (c.requires.can c.loop-port.port c.index-inputs-port.result at) in
    merges_more c.args.ins.now c.loop-port.ins c.merge_one.new.ins c.args.messages.now c.args.outlets.now c.args.inputs.now c.loop-port.port
    c.index-inputs-port.result c.loop-port.invariant at can c.merge_one.ensures

pub returns-clause-put : goal.returns-clause-put
returns-clause-put c = λ i input at. let within = slice_get_within _ i input at in c.loop-port.invariant.put i input (omega (arith, within)) at
