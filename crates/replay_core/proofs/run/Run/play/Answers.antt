use Rattle.std.proofs.lemmas.Result.{on_ok_weaker}
use Rattle.replay_core.proofs.RunLemmas.{Plays-then}
use Rattle.replay_core.proofs.run.Run.play.Goals as goal

pub returns-clause-plays : goal.returns-clause-plays
returns-clause-plays g c =
    on_ok_weaker c.end_block.result (λ end. Plays-then c.in_ok-begin_block.ensures.plays (Plays-then c.in_ok-run_all.ensures.plays end)) c.end_block.ensures.plays
