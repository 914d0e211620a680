use Rattle.std.proofs.Common.{refl, sym}
use Rattle.turtle_lex.specs.Numbers.{first_dot, fraction}
use Rattle.turtle_lex.proofs.Picked.{pick_through, pick_none, pick_none_last}
use Rattle.turtle_lex.proofs.NumberSteps.{first_dot_digit, first_dot_other}
use Rattle.turtle_lex.proofs.number.first_dot_at.Goals as goal

pub returns-in-None : goal.returns-in-None
returns-in-None c =
    pick_none_last c.args.text.now c.args.at first_dot c.requires c.in-None.ensures refl

pub returns-then-is_digit : goal.returns-then-is_digit
returns-then-is_digit c =
    pick_through c.args.text.now c.args.at c.in-Some.c c.in-Some.next first_dot fraction c.fraction_at.result c.requires c.in-Some.ensures (first_dot_digit c.in-Some.c (sym c.if-is_digit.ensures)) refl c.fraction_at.ensures

pub returns-else-is_digit : goal.returns-else-is_digit
returns-else-is_digit c =
    pick_none c.args.text.now c.args.at c.in-Some.c c.in-Some.next first_dot c.requires c.in-Some.ensures (first_dot_other c.in-Some.c (sym c.if-is_digit.ensures)) refl
