use Rattle.std.proofs.lemmas.Result.{IfOk-equal}
use Rattle.replay_core.proofs.Texts.{five-pieces}
use Rattle.replay_core.proofs.summary.push_last.Goals as goal

pub returns : goal.returns
returns c =
    IfOk-equal c.push_str-4.result _ _ _ c.push_str-4.ensures.ok (five-pieces _ _ _ _ _ _ _ _ _ _ c.in_ok-push_str.ensures.ok c.in_ok-push_str-2.ensures.ok c.in_ok-push_str-3.ensures.ok c.in_ok-push_count.ensures)
