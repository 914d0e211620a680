use Rattle.turtle_lex.proofs.Starts.{comma, semicolon, open_square, close_square, open_round, close_round}
use Rattle.turtle_lex.proofs.plain.mark_of.Goals as goal

pub returns-in-44 : goal.returns-in-44
returns-in-44 c =
    comma c.args.c c.in-44.is

pub returns-in-59 : goal.returns-in-59
returns-in-59 c =
    semicolon c.args.c c.in-59.is

pub returns-in-91 : goal.returns-in-91
returns-in-91 c =
    open_square c.args.c c.in-91.is

pub returns-in-93 : goal.returns-in-93
returns-in-93 c =
    close_square c.args.c c.in-93.is

pub returns-in-40 : goal.returns-in-40
returns-in-40 c =
    open_round c.args.c c.in-40.is

pub returns-in-41 : goal.returns-in-41
returns-in-41 c =
    close_round c.args.c c.in-41.is
