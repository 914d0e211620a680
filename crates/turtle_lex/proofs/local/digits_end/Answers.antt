use Rattle.std.proofs.Common.{sym}
use Rattle.turtle_lex.proofs.LocalSteps.{within_two, within_two_not, within_two_end}
use Rattle.turtle_lex.proofs.local.digits_end.Goals as goal

pub returns-in-None : goal.returns-in-None
returns-in-None c =
    within_two_end c.args.text.now c.args.at c.requires c.in-None.ensures

pub returns-then-is_hex : goal.returns-then-is_hex
returns-then-is_hex c =
    within_two c.args.text.now c.args.at c.in-Some.c c.in-Some.next c.second_digit_end.result c.requires c.in-Some.ensures (sym c.if-is_hex.ensures) c.second_digit_end.ensures

pub returns-else-is_hex : goal.returns-else-is_hex
returns-else-is_hex c =
    within_two_not c.args.text.now c.args.at c.in-Some.c c.in-Some.next c.requires c.in-Some.ensures (sym c.if-is_hex.ensures)
