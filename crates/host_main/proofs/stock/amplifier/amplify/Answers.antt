use Rattle.std.proofs.Common.{arith}
use Rattle.lv_base.specs.Number.{gained}
use Rattle.host_main.proofs.Mapped.{map_onto_more}
use Rattle.host_main.proofs.stock.amplifier.amplify.Goals as goal

pub loop-i-preserved : goal.loop-i-preserved
loop-i-preserved c =
    rw (c.gain.ensures, c.loop-i.invariant)
    (map_onto_more (λ sample. gained sample c.args.factor) c.loop-i.i c.args.input.now c.args.output.now _
    (omega arith) c.requires)
