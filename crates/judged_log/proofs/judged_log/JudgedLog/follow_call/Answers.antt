use Rattle.std.proofs.Common.{rules, ℕ, arith}
use Rattle.std.proofs.lemmas.List.{length-map}
use Rattle.step_law.specs.declared.entry.Entry.{Entry}
use Rattle.judged_log.specs.Followed.{BreaksAfter, entries_of}
use Rattle.judged_log.proofs.Marks.{breaks_at, err_is}
use Rattle.judged_log.proofs.judged_log.JudgedLog.follow_call.Goals as goal

pub returns-in_err-about-clause-err : goal.returns-in_err-about-clause-err
returns-in_err-about-clause-err c =
    let shape = c.args.shape.now in
    let steps = entries_of c.args.self.now.log.items in
    let broken = c.in_err-about.field-0.0 in
    let count = length-map c.args.self.now.log.items (λ (mark : ℕ × Entry). mark.1) in
    err_is (BreaksAfter shape c.args.from steps) c.from_residual.result broken (search rules)
    (breaks_at shape c.args.from c.args.from steps broken c.args.self.now.follower (omega arith) (omega (arith, c.requires.from, count)) c.requires.followed
    c.in_err-about.ensures.err)
