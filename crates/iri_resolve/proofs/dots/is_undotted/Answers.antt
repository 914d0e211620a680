use Rattle.std.proofs.Common.{◌+◌, ◌<◌, arith, length-drop}
use Rattle.std.proofs.lemmas.List.{take_rest}
use Rattle.iri_resolve.proofs.Undotted.{UndottedTo-more, Undotted-all, without_dots-Undotted}
use Rattle.iri_resolve.proofs.dots.is_undotted.Goals as goal

pub loop-found-preserved : goal.loop-found-preserved
loop-found-preserved c =
    let some : 0 < c.loop-found.from + c.in-Some.found = omega arith in
    let size = length-drop c.loop-found.from c.args.path.now in
    record {
      within = let high = c.in-Some.ensures.0.high in omega (arith, high, size);
      seen = UndottedTo-more c.args.path.now c.loop-found.from c.in-Some.found c.loop-found.invariant.seen (rw take_rest at c.in-Some.ensures.0.before) some (λ slash. c.if-path-at-eq47.false slash);
    }

pub returns : goal.returns
returns c = λ _. without_dots-Undotted _ (Undotted-all c.args.path.now c.loop-found.from c.loop-found.invariant.seen (rw take_rest at c.in_default.ensures))
