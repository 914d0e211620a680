use Rattle.std.proofs.Common.{refl, sym, Some}
use Rattle.std.proofs.lemmas.Bool.{ne_eqb}
use Rattle.turtle_grammar.specs.declared.token.TokenKind.TheVariants.{Integer}
use Rattle.turtle_lex.specs.Numbers.{whole, dot, exponent_sign}
use Rattle.turtle_lex.proofs.Picked.{pick_or, pick_only, pick_only_last}
use Rattle.turtle_lex.proofs.NumberSteps.{whole_dot, whole_exponent, whole_other, whole_loops}
use Rattle.turtle_lex.proofs.number.whole_at.Goals as goal

pub returns-in-None : goal.returns-in-None
returns-in-None c =
    c.end-end.ensures.carries whole whole_loops (Some (Integer, c.end-end.result)) (pick_only_last c.args.text.now c.end-end.result whole Integer c.end-end.ensures.place c.in-None.ensures refl)

pub returns-then-c-eq46 : goal.returns-then-c-eq46
returns-then-c-eq46 c =
    c.end-end.ensures.carries whole whole_loops c.found_or.result (pick_or c.args.text.now c.end-end.result c.in-Some.c c.in-Some.next whole dot c.dot_at.result c.found_or.result Integer c.end-end.ensures.place c.in-Some.ensures (whole_dot c.in-Some.c c.if-c-eq46.true) refl c.dot_at.ensures c.found_or.ensures)

pub returns-then-is_exponent : goal.returns-then-is_exponent
returns-then-is_exponent c =
    c.end-end.ensures.carries whole whole_loops c.found_or-then-is_exponent.result (pick_or c.args.text.now c.end-end.result c.in-Some.c c.in-Some.next whole exponent_sign c.exponent_at.result c.found_or-then-is_exponent.result Integer c.end-end.ensures.place c.in-Some.ensures (whole_exponent c.in-Some.c (c.end-end.ensures.stops c.in-Some.c c.in-Some.next c.in-Some.ensures) (sym c.if-is_exponent.ensures)) refl c.exponent_at.ensures c.found_or-then-is_exponent.ensures)

pub returns-else-is_exponent : goal.returns-else-is_exponent
returns-else-is_exponent c =
    c.end-end.ensures.carries whole whole_loops (Some (Integer, c.end-end.result)) (pick_only c.args.text.now c.end-end.result c.in-Some.c c.in-Some.next whole Integer c.end-end.ensures.place c.in-Some.ensures (whole_other c.in-Some.c (c.end-end.ensures.stops c.in-Some.c c.in-Some.next c.in-Some.ensures) (ne_eqb c.in-Some.c 46 c.if-c-eq46.false) (sym c.if-is_exponent.ensures)) refl)
