use Rattle.std.proofs.Common.{refl, sym, Some}
use Rattle.turtle_grammar.specs.declared.token.TokenKind.TheVariants.{Decimal}
use Rattle.turtle_lex.specs.Numbers.{fraction, exponent_sign}
use Rattle.turtle_lex.proofs.Picked.{pick_or, pick_only, pick_only_last}
use Rattle.turtle_lex.proofs.NumberSteps.{fraction_exponent, fraction_other, fraction_loops}
use Rattle.turtle_lex.proofs.number.fraction_at.Goals as goal

pub returns-in-None : goal.returns-in-None
returns-in-None c =
    c.end-end.ensures.carries fraction fraction_loops (Some (Decimal, c.end-end.result)) (pick_only_last c.args.text.now c.end-end.result fraction Decimal c.end-end.ensures.place c.in-None.ensures refl)

pub returns-then-is_exponent : goal.returns-then-is_exponent
returns-then-is_exponent c =
    c.end-end.ensures.carries fraction fraction_loops c.found_or.result (pick_or c.args.text.now c.end-end.result c.in-Some.c c.in-Some.next fraction exponent_sign c.exponent_at.result c.found_or.result Decimal c.end-end.ensures.place c.in-Some.ensures (fraction_exponent c.in-Some.c (c.end-end.ensures.stops c.in-Some.c c.in-Some.next c.in-Some.ensures) (sym c.if-is_exponent.ensures)) refl c.exponent_at.ensures c.found_or.ensures)

pub returns-else-is_exponent : goal.returns-else-is_exponent
returns-else-is_exponent c =
    c.end-end.ensures.carries fraction fraction_loops (Some (Decimal, c.end-end.result)) (pick_only c.args.text.now c.end-end.result c.in-Some.c c.in-Some.next fraction Decimal c.end-end.ensures.place c.in-Some.ensures (fraction_other c.in-Some.c (c.end-end.ensures.stops c.in-Some.c c.in-Some.next c.in-Some.ensures) (sym c.if-is_exponent.ensures)) refl)
