use Rattle.std.proofs.Common.{length, map, arith}
use Rattle.replay_core.specs.Signals.{signal_at, sources_of}
use Rattle.replay_core.proofs.Mixing.{mixed-clamped}
use Rattle.replay_core.proofs.mixer.mix_into.Goals as goal

pub returns : goal.returns
returns c =
    let parts = map (signal_at c.args.outs.now.blocks) (sources_of c.args.session.now c.args.inst) in
    mixed-clamped (length c.args.samples.now) c.sum_up.new.sums _ parts (omega arith) c.clamp_all.ensures c.sum_up.ensures
