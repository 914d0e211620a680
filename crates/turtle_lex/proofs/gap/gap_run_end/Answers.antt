use Rattle.std.proofs.Common.{Bool, sym, subst}
use Rattle.turtle_lex.specs.Tags.{GapCarries}
use Rattle.turtle_lex.proofs.Runs.{white_run, comment_run}
use Rattle.turtle_lex.proofs.gap.gap_run_end.Goals as goal

pub returns-then-in_comment-clause-carries : goal.returns-then-in_comment-clause-carries
returns-then-in_comment-clause-carries c =
    let P : Bool → Type 0 = λ b. GapCarries b c.args.text.now c.args.from c.run_end.result in
    subst P (sym c.if-in_comment.true) (comment_run c.args.text.now c.args.from c.run_end.result c.requires c.run_end.ensures.run)

pub returns-else-in_comment-clause-carries : goal.returns-else-in_comment-clause-carries
returns-else-in_comment-clause-carries c =
    let P : Bool → Type 0 = λ b. GapCarries b c.args.text.now c.args.from c.run_end-else-in_comment.result in
    subst P (sym c.if-in_comment.false) (white_run c.args.text.now c.args.from c.run_end-else-in_comment.result c.requires c.run_end-else-in_comment.ensures.run)
