use Rattle.std.proofs.Common.{rules, ◌<◌, ◌≡◌, ◌^◌, ◌++◌, ◌∷◌, [], length, sym, ap, subst, ◌∙◌, arith}
use Rattle.judged_log.specs.declared.halt.Halt.TheVariants.{Broken as BrokenBy}
use Rattle.judged_log.specs.Followed.{IsFollowed, IsRefused, entries_of}
use Rattle.judged_log.proofs.Marks.{few_marks, err_is, put_more}
use Rattle.judged_log.proofs.judged_log.JudgedLog.mark.Goals as goal

pub returns-in_err-about-clause-err : goal.returns-in_err-about-clause-err
returns-in_err-about-clause-err c =
    let marks = c.args.self.now.log.items in
    let few : length (entries_of marks) < 2 ^ 63 = few_marks marks c.items.result.now (c.items.ensures ∙ c.in_ok-grow.ensures.items) (omega (arith, c.items.type_inv.1)) in
    err_is (IsRefused c.args.shape.now (entries_of marks) c.args.entry) c.from_residual-in_err-about.result (BrokenBy c.in_err-about.field-0.0) (search rules)
    (sym (c.in_err-about.ensures.broken (entries_of marks) few c.requires.followed))

pub returns-clause-followed : goal.returns-clause-followed
returns-clause-followed c =
    let marks = c.args.self.now.log.items in
    let few : length (entries_of marks) < 2 ^ 63 = few_marks marks c.items.result.now (c.items.ensures ∙ c.in_ok-grow.ensures.items) (omega (arith, c.items.type_inv.1)) in
    let put : entries_of c.put.new.self.items ≡ entries_of marks ++ c.args.entry ∷ [] =
    ap (λ log. entries_of log.items) c.put.ensures ∙ put_more c.grow.new.self.items _ ∙ ap (λ items. entries_of items ++ c.args.entry ∷ []) c.in_ok-grow.ensures.items in
    subst (λ steps. IsFollowed c.args.shape.now steps c.follow.new.self) (sym put) (c.in_ok-about.ensures.followed (entries_of marks) few c.requires.followed)

pub returns-clause-about : goal.returns-clause-about
returns-clause-about c =
    let marks = c.args.self.now.log.items in
    let few : length (entries_of marks) < 2 ^ 63 = few_marks marks c.items.result.now (c.items.ensures ∙ c.in_ok-grow.ensures.items) (omega (arith, c.items.type_inv.1)) in
    c.in_ok-about.ensures.about (entries_of marks) few c.requires.followed
