use Rattle.block_signals.proofs.Given.{made_more}
use Rattle.block_signals.proofs.inlets.Inlets.new.Goals as goal

pub loop-inst-preserved : goal.loop-inst-preserved
loop-inst-preserved c =
    rw c.in_ok-push.ensures.items
    (made_more c.args.setup.now c.loop-inst.each.items c.loop-inst.inst c.in_ok-new.field-0 c.loop-inst.invariant c.in_ok-new.ensures.inlet c.in_ok-new.ensures.values
    c.in_ok-new.ensures.messages)
