use Rattle.std.proofs.Common.{true, false, not, sym, ap, ◌∙◌, None, Some}
use Rattle.std.proofs.lemmas.Bool.{ne_eqb}
use Rattle.turtle_lex.specs.Tags.{gap_state}
use Rattle.turtle_lex.proofs.TagSteps.{gap_white, gap_sharp, gap_other, gap_line, gap_case}
use Rattle.turtle_lex.proofs.gap.gap_step.Goals as goal

pub returns-then-c-eq35 : goal.returns-then-c-eq35
returns-then-c-eq35 c =
    gap_case c.args.c c.args.in_comment false (Some true) c.if-in_comment.false (gap_sharp c.args.c c.if-c-eq35.true)

pub returns-then-is_white : goal.returns-then-is_white
returns-then-is_white c =
    gap_case c.args.c c.args.in_comment false (Some false) c.if-in_comment.false (gap_white c.args.c (sym c.if-is_white.ensures))

pub returns-else-is_white : goal.returns-else-is_white
returns-else-is_white c =
    gap_case c.args.c c.args.in_comment false None c.if-in_comment.false (gap_other c.args.c (sym c.if-is_white.ensures) (ne_eqb c.args.c 35 c.if-c-eq35.false))

pub returns-then-in_comment : goal.returns-then-in_comment
returns-then-in_comment c =
    gap_case c.args.c c.args.in_comment true (Some (not c.is_line_end.result)) c.if-in_comment.true (gap_line c.args.c ∙ ap (λ b. gap_state (not b)) (sym c.is_line_end.ensures))
