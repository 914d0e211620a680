use Rattle.std.proofs.Common.{sym, ◌∙◌, true≢false}
use Rattle.triple_store.proofs.Firsts.{further}
use Rattle.triple_store.proofs.compared.compare.Goals as goal

pub loop-preserved : goal.loop-preserved
loop-preserved c =
    let i = c.loop.invariant in
    further c.args.chain c.loop.left c.next.new.self c.in-Some.row.now c.args.triple.now c.loop.counter i.0 i.1 i.2 c.in-Some.ensures
    (λ same. true≢false (sym (c.are_same.ensures.1 same) ∙ c.if-are_same.false))
