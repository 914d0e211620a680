use Rattle.std.proofs.lemmas.Result.{on_ok_weaker}
use Rattle.replay_core.proofs.RunLemmas.{Plays-then}
use Rattle.replay_core.proofs.run.Run.play_whole.Goals as goal

pub returns-clause-plays : goal.returns-clause-plays
returns-clause-plays g c =
    on_ok_weaker c.deactivate_all.result
    (λ last. Plays-then c.in_ok-open.ensures.plays (Plays-then c.in_ok-play_all.ensures.plays (Plays-then c.in_ok-stop.ensures.plays last)))
    c.deactivate_all.ensures.plays
