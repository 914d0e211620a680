use Rattle.std.proofs.Common.{arith}
use Rattle.std.proofs.lemmas.Str.{IsCharBoundary-from_drop}
use Rattle.turtle_grammar.proofs.Spans.{rising_spans}
use Rattle.turtle_read.proofs.document.take_token.Goals as goal

pub range-requires-clause-start_boundary : goal.range-requires-clause-start_boundary
range-requires-clause-start_boundary c =
    let l = rising_spans c.args.text.now c.requires.token.place c.args.token c.requires.token.within c.requires.token.utf8 c.requires.token.comes in
    λ _. IsCharBoundary-from_drop c.args.text.now c.args.token.at (omega (arith, l.some, l.within)) l.begins

pub range-requires-clause-end_boundary : goal.range-requires-clause-end_boundary
range-requires-clause-end_boundary c =
    let l = rising_spans c.args.text.now c.requires.token.place c.args.token c.requires.token.within c.requires.token.utf8 c.requires.token.comes in
    IsCharBoundary-from_drop c.args.text.now c.args.token.upto l.within l.ends
