use Rattle.std.proofs.Common.{sym}
use Rattle.turtle_grammar.specs.Characters.{is_hex}
use Rattle.turtle_lex.proofs.LocalSteps.{within_last, within_not, within_end}
use Rattle.turtle_lex.proofs.local.second_digit_end.Goals as goal

pub returns-in-None : goal.returns-in-None
returns-in-None c =
    within_end is_hex c.args.text.now c.args.at c.requires c.in-None.ensures

pub returns-then-is_hex : goal.returns-then-is_hex
returns-then-is_hex c =
    within_last is_hex c.args.text.now c.args.at c.in-Some.c c.in-Some.next c.requires c.in-Some.ensures (sym c.if-is_hex.ensures)

pub returns-else-is_hex : goal.returns-else-is_hex
returns-else-is_hex c =
    within_not is_hex c.args.text.now c.args.at c.in-Some.c c.in-Some.next c.requires c.in-Some.ensures (sym c.if-is_hex.ensures)
