use Rattle.std.proofs.Common.{[], ◌∷◌, length, None, ap, sym, subst, arith}
use Rattle.std.proofs.lemmas.List.{length-append}
use Rattle.run_outcome.proofs.Nothing.{HoldsNothing, one_more_nothing}
use Rattle.run_outcome.proofs.outcome.nothing.Goals as goal

pub loop-preserved : goal.loop-preserved
loop-preserved g c =
    let items = c.in_ok-push.ensures.ok in
    let all = ap length items in
    let sum = length-append c.loop.kept (None ∷ []) in
    let before = c.loop.invariant.0 in
    (omega (arith, all, sum, before), subst (λ l. HoldsNothing l) (sym items) (one_more_nothing c.loop.kept c.loop.invariant.1))

pub returns : goal.returns
returns g c setup count = record {
  each = c.loop.invariant.1;
  all = let before = c.loop.invariant.0 in omega (arith, before, count, c.loop-test.false, c.loop.auto.counter-end);
}
