use Rattle.std.proofs.Common.{sym}
use Rattle.turtle_grammar.specs.Characters.{is_local_escape}
use Rattle.turtle_lex.proofs.LocalSteps.{within_last, within_not, within_end}
use Rattle.turtle_lex.proofs.local.escaped_end.Goals as goal

pub returns-in-None : goal.returns-in-None
returns-in-None c =
    within_end is_local_escape c.args.text.now c.args.at c.requires c.in-None.ensures

pub returns-then-is_local_escape : goal.returns-then-is_local_escape
returns-then-is_local_escape c =
    within_last is_local_escape c.args.text.now c.args.at c.in-Some.c c.in-Some.next c.requires c.in-Some.ensures (sym c.if-is_local_escape.ensures)

pub returns-else-is_local_escape : goal.returns-else-is_local_escape
returns-else-is_local_escape c =
    within_not is_local_escape c.args.text.now c.args.at c.in-Some.c c.in-Some.next c.requires c.in-Some.ensures (sym c.if-is_local_escape.ensures)
