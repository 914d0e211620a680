use Rattle.std.proofs.Common.{ap, List}
use Rattle.lv_base.specs.declared.number.Sample.{Sample}
use Rattle.replay_core.specs.Run.{moment_of}
use Rattle.replay_core.proofs.RunLemmas.{steps-called}
use Rattle.replay_core.proofs.run.Run.begin_block.Goals as goal

pub returns-clause-plays : goal.returns-clause-plays
returns-clause-plays g c = record {
  steps = steps-called _ _ _ _ _ _ _ c.in_ok-push.ensures.ok c.in_ok-push-2.ensures.ok c.block.ensures c.look.ensures;
  moment = ap (λ (signals : List (List Sample)). record (moment_of c.args.self.now) { signals = signals }) c.silence.ensures.silent;
  running = record { fronts = c.requires.running.fronts; desk = c.silence.ensures.ready };
}
