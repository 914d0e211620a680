use Rattle.std.proofs.Common.{refl, sym}
use Rattle.turtle_lex.specs.Numbers.{exponent_sign, exponent_digits, exponent_rest}
use Rattle.turtle_lex.proofs.Picked.{pick_through, pick_none, pick_none_last}
use Rattle.turtle_lex.proofs.NumberSteps.{sign_digit, sign_sign, sign_other}
use Rattle.turtle_lex.proofs.number.exponent_at.Goals as goal

pub returns-in-None : goal.returns-in-None
returns-in-None c =
    pick_none_last c.args.text.now c.args.at exponent_sign c.requires c.in-None.ensures refl

pub returns-then-is_digit : goal.returns-then-is_digit
returns-then-is_digit c =
    pick_through c.args.text.now c.args.at c.in-Some.c c.in-Some.next exponent_sign exponent_rest c.exponent_rest_at.result c.requires c.in-Some.ensures (sign_digit c.in-Some.c (sym c.if-is_digit.ensures)) refl c.exponent_rest_at.ensures

pub returns-then-is_sign : goal.returns-then-is_sign
returns-then-is_sign c =
    pick_through c.args.text.now c.args.at c.in-Some.c c.in-Some.next exponent_sign exponent_digits c.exponent_digits_at.result c.requires c.in-Some.ensures (sign_sign c.in-Some.c (sym c.if-is_digit.ensures) (sym c.if-is_sign.ensures)) refl c.exponent_digits_at.ensures

pub returns-else-is_sign : goal.returns-else-is_sign
returns-else-is_sign c =
    pick_none c.args.text.now c.args.at c.in-Some.c c.in-Some.next exponent_sign c.requires c.in-Some.ensures (sign_other c.in-Some.c (sym c.if-is_digit.ensures) (sym c.if-is_sign.ensures)) refl
