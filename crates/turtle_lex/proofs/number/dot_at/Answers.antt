use Rattle.std.proofs.Common.{refl, sym}
use Rattle.turtle_lex.specs.Numbers.{dot, fraction, exponent_sign}
use Rattle.turtle_lex.proofs.Picked.{pick_through, pick_none, pick_none_last}
use Rattle.turtle_lex.proofs.NumberSteps.{dot_digit, dot_exponent, dot_other}
use Rattle.turtle_lex.proofs.number.dot_at.Goals as goal

pub returns-in-None : goal.returns-in-None
returns-in-None c =
    pick_none_last c.args.text.now c.args.at dot c.requires c.in-None.ensures refl

pub returns-then-is_digit : goal.returns-then-is_digit
returns-then-is_digit c =
    pick_through c.args.text.now c.args.at c.in-Some.c c.in-Some.next dot fraction c.fraction_at.result c.requires c.in-Some.ensures (dot_digit c.in-Some.c (sym c.if-is_digit.ensures)) refl c.fraction_at.ensures

pub returns-then-is_exponent : goal.returns-then-is_exponent
returns-then-is_exponent c =
    pick_through c.args.text.now c.args.at c.in-Some.c c.in-Some.next dot exponent_sign c.exponent_at.result c.requires c.in-Some.ensures (dot_exponent c.in-Some.c (sym c.if-is_digit.ensures) (sym c.if-is_exponent.ensures)) refl c.exponent_at.ensures

pub returns-else-is_exponent : goal.returns-else-is_exponent
returns-else-is_exponent c =
    pick_none c.args.text.now c.args.at c.in-Some.c c.in-Some.next dot c.requires c.in-Some.ensures (dot_other c.in-Some.c (sym c.if-is_digit.ensures) (sym c.if-is_exponent.ensures)) refl
