use Rattle.std.proofs.Common.{◌≡◌, ◌+◌, take, slice_get, Some, subst, ◌∙◌, arith}
use Rattle.step_law.specs.declared.entry.Entry.{Entry}
use Rattle.step_record.specs.Log.{Logged}
use Rattle.judged_log.specs.Followed.{IsFollowed, entries_of}
use Rattle.told_calls.specs.Steps.{message_in}
use Rattle.told_calls.proofs.Judged.{about_at, one_more_says, all_say, entry_count}
use Rattle.told_calls.proofs.judging.judge_later.Goals as goal

pub loop-place-preserved : goal.loop-place-preserved
loop-place-preserved c =
    let shape = c.args.shape.now in
    let place = c.loop-place.place in
    let same = c.loop-place.invariant.0 in (
      c.in_ok-judge_at.ensures.log ∙ same,
      subst (λ (it : Logged). IsFollowed shape (take (place + 1) (entries_of it.items)) c.judge_at.new.log.follower) same c.in_ok-judge_at.ensures.followed,
      one_more_says shape (entries_of c.args.log.now.log.items) c.args.from place c.loop-place.invariant.2
          (subst (λ (it : Logged). (entry : Entry) → slice_get (entries_of it.items) place ≡ Some entry → about_at shape (entries_of it.items) place entry ≡ message_in entry.kind)
          same c.in_ok-judge_at.ensures.told),
    )

pub returns-clause-told : goal.returns-clause-told
returns-clause-told c =
    let count = entry_count c.args.log.now.log.items in
    all_say c.args.shape.now (entries_of c.args.log.now.log.items) c.args.from c.loop-place.place
    (omega (arith, c.loop-place-test.false, c.requires.count, count)) c.loop-place.invariant.2
