use Rattle.std.proofs.Common.{sym}
use Rattle.std.proofs.lemmas.Bool.{ne_eqb}
use Rattle.turtle_grammar.specs.Terminals.{short_code, long_code}
use Rattle.turtle_lex.specs.Enclosure.{escape_rest}
use Rattle.turtle_lex.proofs.Inside.{inside_step, inside_last, inside_wrong, inside_end}
use Rattle.turtle_lex.proofs.Codes.{escape_after_u, escape_after_long_u, escape_after_letter, escape_after_other, escape_live, escape_full}
use Rattle.turtle_lex.proofs.escape.escape_end.Goals as goal

pub returns-in-None-clause-inside : goal.returns-in-None-clause-inside
returns-in-None-clause-inside c =
    inside_end c.args.text.now c.args.at (escape_rest c.args.enclosure) c.in-None.ensures (escape_live c.args.enclosure)

pub returns-then-c-eq117-clause-inside : goal.returns-then-c-eq117-clause-inside
returns-then-c-eq117-clause-inside c =
    inside_step c.args.text.now c.args.at c.in-Some.c c.in-Some.next (escape_rest c.args.enclosure) short_code c.short_code_end.result c.in-Some.ensures (escape_after_u c.args.enclosure c.in-Some.c c.if-c-eq117.true) (escape_full c.args.enclosure) c.short_code_end.ensures.inside

pub returns-then-c-eq85-clause-inside : goal.returns-then-c-eq85-clause-inside
returns-then-c-eq85-clause-inside c =
    inside_step c.args.text.now c.args.at c.in-Some.c c.in-Some.next (escape_rest c.args.enclosure) long_code c.long_code_end.result c.in-Some.ensures (escape_after_long_u c.args.enclosure c.in-Some.c c.if-c-eq85.true) (escape_full c.args.enclosure) c.long_code_end.ensures.inside

pub returns-then-has_letter_escape-clause-inside : goal.returns-then-has_letter_escape-clause-inside
returns-then-has_letter_escape-clause-inside c =
    inside_last c.args.text.now c.args.at c.in-Some.c c.in-Some.next (escape_rest c.args.enclosure) c.in-Some.ensures (escape_after_letter c.args.enclosure c.in-Some.c (ne_eqb c.in-Some.c 117 c.if-c-eq117.false) (ne_eqb c.in-Some.c 85 c.if-c-eq85.false) (sym c.if-has_letter_escape.ensures)) (escape_full c.args.enclosure)

pub returns-else-has_letter_escape-clause-inside : goal.returns-else-has_letter_escape-clause-inside
returns-else-has_letter_escape-clause-inside c =
    inside_wrong c.args.text.now c.args.at c.in-Some.c c.in-Some.next (escape_rest c.args.enclosure) c.requires c.in-Some.ensures (escape_after_other c.args.enclosure c.in-Some.c (ne_eqb c.in-Some.c 117 c.if-c-eq117.false) (ne_eqb c.in-Some.c 85 c.if-c-eq85.false) (sym c.if-has_letter_escape.ensures)) (escape_full c.args.enclosure) (escape_live c.args.enclosure)
