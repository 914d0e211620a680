use Rattle.std.proofs.Common.{◌++◌, ◌∷◌, [], cond, ap, sym, ◌∙◌}
use Rattle.triple_store.proofs.SameTerm.{copy_of_triple, copy_added}
use Rattle.triple_store.proofs.late.keep.Goals as goal

pub returns-clause-ok : goal.returns-clause-ok
returns-clause-ok c =
    let copied = c.in_ok-clone.ensures.cases in
    copy_added c.args.rows.now.keys c.insert.new.rows.keys c.args.triple.now c.in_ok-clone.field-0 _ c.in_ok-insert.ensures.ok c.requires
    (copy_of_triple c.args.triple.now c.in_ok-clone.field-0 copied.0 copied.1.0 copied.1.1)
    ∙ ap (λ late. cond late (c.args.rows.now.keys ++ c.args.triple.now ∷ []) c.args.rows.now.keys) (sym c.if-not-is_late.false)
