use Rattle.std.proofs.Common.{sym, arith}
use Rattle.std.proofs.lemmas.Bool.{ne_eqb}
use Rattle.turtle_lex.proofs.Bodies.{end_here}
use Rattle.turtle_lex.proofs.NameSteps.{name_begins, name_more, name_dot, name_stops, name_ends}
use Rattle.turtle_lex.proofs.Runs.{name_run}
use Rattle.turtle_lex.proofs.name.name_end.Goals as goal

pub loop-c-init : goal.loop-c-init
loop-c-init c =
    (omega arith, name_run c.args.text.now c.args.from c.args.from c.run_end-at.result (name_begins c.args.text.now c.args.from c.requires) c.run_end-at.ensures.run)

pub loop-c-preserved-then-is_name_char : goal.loop-c-preserved-then-is_name_char
loop-c-preserved-then-is_name_char c =
    (omega arith, name_run c.args.text.now c.args.from c.in-Some.next c.run_end-at-then-is_name_char.result (name_more c.args.text.now c.args.from c.loop-c.last c.loop-c.at c.in-Some.c c.in-Some.next c.loop-c.invariant.1 c.in-Some.ensures (sym c.if-is_name_char.ensures) c.loop-c.invariant.0) c.run_end-at-then-is_name_char.ensures.run)

pub loop-c-preserved : goal.loop-c-preserved
loop-c-preserved c =
    (omega (arith, c.loop-c.invariant.0, c.in-Some.ensures.further), name_dot c.args.text.now c.args.from c.loop-c.last c.loop-c.at c.in-Some.c c.in-Some.next c.loop-c.invariant.1 c.in-Some.ensures c.if-c-eq46.true)

pub returns-else-c-eq46 : goal.returns-else-c-eq46
returns-else-c-eq46 c =
    name_stops c.args.text.now c.args.from c.loop-c.last c.loop-c.at c.in-Some.c c.in-Some.next c.loop-c.invariant.1 c.in-Some.ensures (sym c.if-is_name_char.ensures) (ne_eqb c.in-Some.c 46 c.if-c-eq46.false)

pub returns : goal.returns
returns c =
    name_ends c.args.text.now c.args.from c.loop-c.last c.loop-c.at c.loop-c.invariant.1 (end_here c.args.text.now c.loop-c.at c.char_at.result c.in_default.not-Some c.char_at.ensures)
