use Rattle.std.proofs.Common.{refl}
use Rattle.record_counts.proofs.WaitLaws.{none_yet}
use Rattle.record_counts.proofs.waits.Waits.new.Goals as goal

pub returns : goal.returns
returns c =
    none_yet c.args.shape.now c.in_ok-insts.insts c.in_ok-stopped.stopped c.len-count.result c.len-count.ensures c.in_ok-insts.ensures c.in_ok-stopped.ensures _ refl
