use Rattle.std.proofs.Common.{◌+◌, subst, arith}
use Rattle.step_record.specs.Log.{Logged}
use Rattle.record_terms.specs.Message.{meaning_of}
use Rattle.judged_log.specs.Followed.{entries_of}
use Rattle.told_calls.proofs.Judged.{SayKinds, all_told, entry_count}
use Rattle.told_calls.proofs.judging.judge.Goals as goal

pub returns-clause-told : goal.returns-clause-told
returns-clause-told c =
    let shape = c.args.shape.now in
    let from = c.args.from in
    let count = entry_count c.args.log.now.log.items in
    all_told shape (entries_of c.args.log.now.log.items) from (meaning_of c.in_ok-about.about) (omega (arith, c.requires.from, count))
    c.in_ok-about.ensures.about
    (subst (λ (it : Logged). SayKinds shape (entries_of it.items) (from + 1)) c.in_ok-about.ensures.log c.in_ok-judge_later.ensures.told)
