use Rattle.std.proofs.Common.{refl, Some}
use Rattle.turtle_grammar.specs.declared.token.TokenKind.TheVariants.{Dot}
use Rattle.turtle_lex.specs.Tags.{gap_state}
use Rattle.turtle_lex.proofs.Bodies.{end_here}
use Rattle.turtle_lex.proofs.Picked.{pick_or, pick_only, pick_only_last}
use Rattle.turtle_lex.proofs.TagSteps.{gap_accepts}
use Rattle.turtle_lex.proofs.gap.gap_end.Goals as goal

pub returns-in-None : goal.returns-in-None
returns-in-None c =
    c.loop-c.invariant.1 (Dot, c.loop-c.at) (pick_only c.args.text.now c.loop-c.at c.in-Some.c c.in-Some.next (gap_state c.loop-c.in_comment) Dot c.loop-c.invariant.0 c.in-Some.ensures c.in-None.ensures (gap_accepts c.loop-c.in_comment))

pub loop-c-preserved : goal.loop-c-preserved
loop-c-preserved c =
    (c.gap_run_end-at-in-Some-gap_step.ensures.place, λ x h. c.loop-c.invariant.1 x (pick_or c.args.text.now c.loop-c.at c.in-Some.c c.in-Some.next (gap_state c.loop-c.in_comment) (gap_state c.in-Some-gap_step.inside) (Some x) (Some x) Dot c.loop-c.invariant.0 c.in-Some.ensures c.in-Some-gap_step.ensures (gap_accepts c.loop-c.in_comment) (c.gap_run_end-at-in-Some-gap_step.ensures.carries x h) refl))

pub returns : goal.returns
returns c =
    c.loop-c.invariant.1 (Dot, c.loop-c.at) (pick_only_last c.args.text.now c.loop-c.at (gap_state c.loop-c.in_comment) Dot c.loop-c.invariant.0 (end_here c.args.text.now c.loop-c.at c.char_at.result c.in_default.not-Some c.char_at.ensures) (gap_accepts c.loop-c.in_comment))
