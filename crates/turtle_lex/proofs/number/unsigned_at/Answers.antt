use Rattle.std.proofs.Common.{refl, sym}
use Rattle.std.proofs.lemmas.Bool.{ne_eqb}
use Rattle.turtle_lex.specs.Numbers.{unsigned, whole, first_dot}
use Rattle.turtle_lex.proofs.Picked.{pick_through, pick_none, pick_none_last}
use Rattle.turtle_lex.proofs.NumberSteps.{unsigned_digit, unsigned_dot, unsigned_other}
use Rattle.turtle_lex.proofs.number.unsigned_at.Goals as goal

pub returns-in-None : goal.returns-in-None
returns-in-None c =
    pick_none_last c.args.text.now c.args.at unsigned c.requires c.in-None.ensures refl

pub returns-then-is_digit : goal.returns-then-is_digit
returns-then-is_digit c =
    pick_through c.args.text.now c.args.at c.in-Some.c c.in-Some.next unsigned whole c.whole_at.result c.requires c.in-Some.ensures (unsigned_digit c.in-Some.c (sym c.if-is_digit.ensures)) refl c.whole_at.ensures

pub returns-then-c-eq46 : goal.returns-then-c-eq46
returns-then-c-eq46 c =
    pick_through c.args.text.now c.args.at c.in-Some.c c.in-Some.next unsigned first_dot c.first_dot_at.result c.requires c.in-Some.ensures (unsigned_dot c.in-Some.c c.if-c-eq46.true) refl c.first_dot_at.ensures

pub returns-else-c-eq46 : goal.returns-else-c-eq46
returns-else-c-eq46 c =
    pick_none c.args.text.now c.args.at c.in-Some.c c.in-Some.next unsigned c.requires c.in-Some.ensures (unsigned_other c.in-Some.c (sym c.if-is_digit.ensures) (ne_eqb c.in-Some.c 46 c.if-c-eq46.false)) refl
