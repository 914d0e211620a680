use Rattle.std.proofs.Common.{◌<◌, ◌≡◌, ◌+◌, ◌^◌, take, length, sym, ap, subst, ◌∙◌, arith}
use Rattle.std.proofs.lemmas.List.{length-take-le}
use Rattle.record_law.specs.Protocol.{history_of}
use Rattle.record_legal.specs.Judging.{IsAbout}
use Rattle.judged_log.specs.Followed.{IsFollowed, entries_of, next_broken}
use Rattle.judged_log.proofs.Marks.{few_marks, few_taken, take_place, at_place, if_ok, if_err}
use Rattle.judged_log.proofs.judged_log.JudgedLog.follow_at.Goals as goal

pub returns-clause-followed : goal.returns-clause-followed
returns-clause-followed c =
    let marks = c.args.self.now.log.items in
    let place = c.args.place in
    let few : length (take place (entries_of marks)) < 2 ^ 63 = few_taken place marks c.items.result.now c.items.ensures (omega (arith, c.items.type_inv.1)) in
    if_ok c.follow.result
    (λ about more. subst (λ steps. IsFollowed c.args.shape.now steps c.follow.new.self) (sym (take_place marks c.items.result.now c.items.ensures place _ c.requires.place))
    (more (take place (entries_of marks)) few c.requires.followed))
    c.follow.ensures.followed

pub returns-clause-about : goal.returns-clause-about
returns-clause-about c =
    let marks = c.args.self.now.log.items in
    let place = c.args.place in
    let few : length (take place (entries_of marks)) < 2 ^ 63 = few_taken place marks c.items.result.now c.items.ensures (omega (arith, c.items.type_inv.1)) in
    if_ok c.follow.result
    (λ about says entry is.
    subst (λ e. IsAbout c.args.shape.now (history_of c.args.shape.now (take place (entries_of marks))) e about)
    (at_place marks c.items.result.now c.items.ensures place _ entry is) (says (take place (entries_of marks)) few c.requires.followed))
    c.follow.ensures.about

pub returns-clause-err : goal.returns-clause-err
returns-clause-err c =
    let marks = c.args.self.now.log.items in
    let place = c.args.place in
    let few : length (take place (entries_of marks)) < 2 ^ 63 = few_taken place marks c.items.result.now c.items.ensures (omega (arith, c.items.type_inv.1)) in
    if_err c.follow.result
    (λ broken failed entry is.
    ap (next_broken c.args.shape.now (take place (entries_of marks))) (sym (at_place marks c.items.result.now c.items.ensures place _ entry is))
    ∙ sym (c.follow.ensures.broken (take place (entries_of marks)) few c.requires.followed) ∙ failed)
