use Rattle.std.proofs.Common.{◌∙◌}
use Rattle.run_summary.proofs.Texts.{values_more}
use Rattle.run_summary.proofs.text.push_values.Goals as goal

pub loop-port-preserved : goal.loop-port-preserved
loop-port-preserved c =
    values_more c.args.name.now c.args.ports.now c.loop-port.port-index c.port-item.result c.loop-port.left.now _ c.loop-port.text c.push_shown.new.text c.loop-port-test.true c.port-item.is
    c.in_ok-push_shown.ensures c.values_after-left.ensures
    ∙ c.loop-port.invariant
