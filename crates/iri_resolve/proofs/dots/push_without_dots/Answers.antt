use Rattle.std.proofs.Common.{◌∙◌, sym, ap, ◌++◌, drop, arith}
use Rattle.std.proofs.lemmas.Grind.{common_steps}
use Rattle.std.proofs.lemmas.List.{take-append-drop}
use Rattle.iri_resolve.proofs.Turns.{Makes-start, Makes-turn, Makes-end}
use Rattle.iri_resolve.proofs.dots.push_without_dots.Goals as goal

pub loop-input-init : goal.loop-input-init
loop-input-init c = record {
  same = grind (arith, common_steps);
  within = omega arith;
  makes = Makes-start _ _ (grind (arith, common_steps));
}

pub loop-input-preserved : goal.loop-input-preserved
loop-input-preserved c = record {
  same = c.in_ok-input.ensures.same ∙ c.loop-input.invariant.same;
  within = c.turn.ensures.within;
  makes = Makes-turn _ _ _ _ _ (grind (arith, common_steps)) c.in_ok-input.ensures.shorter c.in_ok-input.ensures.left c.in_ok-input.ensures.written c.loop-input.invariant.makes;
}

pub returns : goal.returns
returns c =
    sym (take-append-drop c.len-floor.result c.loop-input.output.items)
    ∙ ap (λ front. front ++ drop c.len-floor.result c.loop-input.output.items) c.loop-input.invariant.same
    ∙ ap (λ back. c.args.output.now.items ++ back) (Makes-end _ _ _ (grind (arith, common_steps)) c.loop-input.invariant.makes)
