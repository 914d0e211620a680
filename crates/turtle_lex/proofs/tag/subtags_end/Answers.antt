use Rattle.std.proofs.Common.{Some, arith}
use Rattle.turtle_grammar.specs.declared.token.TokenKind.TheVariants.{LanguageTag}
use Rattle.turtle_lex.specs.Tags.{tag_rest}
use Rattle.turtle_lex.proofs.TagSteps.{rest_loops, not_there}
use Rattle.turtle_lex.proofs.tag.subtags_end.Goals as goal

pub loop-next-init : goal.loop-next-init
loop-next-init c =
    (c.end-end.ensures.place, c.end-end.ensures.further, c.end-end.ensures.stops, λ x h. c.end-end.ensures.carries tag_rest rest_loops (Some x) h)

pub loop-next-preserved : goal.loop-next-preserved
loop-next-preserved c =
    (c.end-end-in-Some.ensures.place, omega (arith, c.end-end-in-Some.ensures.further, c.in-Some.ensures.1, c.loop-next.invariant.1), c.end-end-in-Some.ensures.stops, λ x h. c.loop-next.invariant.3 x (c.in-Some.ensures.3 x (c.end-end-in-Some.ensures.carries tag_rest rest_loops (Some x) h)))

pub loop-next-smaller : goal.loop-next-smaller
loop-next-smaller c =
    omega (arith, c.end-end-in-Some.ensures.further, c.in-Some.ensures.1, c.end-end-in-Some.ensures.place.inside)

pub returns : goal.returns
returns c =
    c.loop-next.invariant.3 (LanguageTag, c.loop-next.end) ((not_there c.args.text.now c.loop-next.end c.hyphen_at.result c.in_default.not-Some c.hyphen_at.ensures).1 c.loop-next.invariant.2)
