use Rattle.std.proofs.Common.{rules, ◌≡◌, ℕ, ◌<◌, ◌≤◌, take, length, slice_get, Some, subst, arith}
use Rattle.std.proofs.lemmas.List.{length-map}
use Rattle.step_law.specs.declared.entry.Entry.{Entry}
use Rattle.judged_log.specs.Followed.{IsFollowed, BreaksAfter, entries_of, next_broken}
use Rattle.judged_log.proofs.Marks.{all_taken, breaks_at, err_is}
use Rattle.judged_log.proofs.judged_log.JudgedLog.follow_between.Goals as goal

pub returns-in_err-follow_at-clause-err : goal.returns-in_err-follow_at-clause-err
returns-in_err-follow_at-clause-err c =
    let shape = c.args.shape.now in
    let steps = entries_of c.args.self.now.log.items in
    let place = c.loop-place.place in
    let broken = c.in_err-follow_at.field-0.0 in
    let count = length-map c.args.self.now.log.items (λ (mark : ℕ × Entry). mark.1) in
    err_is (BreaksAfter shape c.args.from steps) c.from_residual.result broken (search rules)
    (breaks_at shape c.args.from place steps broken c.loop-place.self.follower (omega (arith, c.loop-place.auto.place))
    (omega (arith, c.loop-place-test.true, c.requires.count, count)) c.loop-place.invariant.1
    (subst (λ log. (entry : Entry) → slice_get (entries_of log.items) place ≡ Some entry → next_broken shape (take place (entries_of log.items)) entry ≡ Some broken)
    c.loop-place.invariant.0 c.in_err-follow_at.ensures.err))

pub returns-clause-followed : goal.returns-clause-followed
returns-clause-followed c =
    let steps = entries_of c.args.self.now.log.items in
    let count = length-map c.args.self.now.log.items (λ (mark : ℕ × Entry). mark.1) in
    subst (λ it. IsFollowed c.args.shape.now it c.loop-place.self.follower)
    (all_taken steps c.loop-place.place (omega (arith, c.loop-place-test.false, c.requires.count, count))) c.loop-place.invariant.1
