use Rattle.std.proofs.Common.{ap, ◌∙◌, List}
use Rattle.lv_base.specs.declared.number.Fixed.{Fixed}
use Rattle.plugin_decl.specs.declared.declaration.Port.{Port}
use Rattle.plug_api.specs.Buffers.{Given, given_value}
use Rattle.block_signals.proofs.Lists.{put_next}
use Rattle.block_signals.proofs.inlet.begin_values.Goals as goal

pub loop-i-preserved : goal.loop-i-preserved
loop-i-preserved c =
    c.set_value.ensures ∙ ap (λ (ins : Given). given_value ins c.loop-i.i c.index-ports-i.result.first) c.loop-i.invariant
    ∙ ap (λ (values : List Fixed). record c.args.ins.now { values = values })
    (put_next (λ (port : Port). port.first) c.args.ports.now c.args.ins.now.values c.loop-i.i c.index-ports-i.result c.loop-i-test.true c.requires.there c.index-ports-i.is)
