use Rattle.std.proofs.lemmas.Result.{on_ok_weaker}
use Rattle.replay_core.proofs.RunLemmas.{Plays-then}
use Rattle.replay_core.proofs.run.Run.open.Goals as goal

pub returns-clause-plays : goal.returns-clause-plays
returns-clause-plays g c =
    on_ok_weaker c.activate_all.result (λ active. Plays-then c.in_ok-make_all.ensures.plays active) c.activate_all.ensures.plays
