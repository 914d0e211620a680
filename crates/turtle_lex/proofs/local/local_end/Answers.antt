use Rattle.std.proofs.Common.{arith}
use Rattle.turtle_lex.proofs.Bodies.{end_here}
use Rattle.turtle_lex.proofs.LocalSteps.{local_begins, local_part_more, local_dot_more, local_stops, local_ends}
use Rattle.turtle_lex.proofs.Runs.{local_run}
use Rattle.turtle_lex.proofs.local.local_end.Goals as goal

pub loop-c-init : goal.loop-c-init
loop-c-init c =
    (omega arith, local_run c.args.text.now c.args.from c.args.from c.run_end-at.result (local_begins c.args.text.now c.args.from c.requires) c.run_end-at.ensures.run)

pub loop-c-preserved-then-c-eq46 : goal.loop-c-preserved-then-c-eq46
loop-c-preserved-then-c-eq46 c =
    (omega (arith, c.loop-c.invariant.0, c.in-Some.ensures.further), local_dot_more c.args.text.now c.args.from c.loop-c.last c.loop-c.at c.in-Some.c c.in-Some.next c.loop-c.invariant.1 c.in-Some.ensures c.if-c-eq46.true)

pub loop-c-preserved : goal.loop-c-preserved
loop-c-preserved c =
    (omega arith, local_run c.args.text.now c.args.from c.in-Some-part_end.end c.run_end-at-in-Some-part_end.result (local_part_more c.args.text.now c.args.from c.loop-c.last c.loop-c.at c.in-Some-part_end.end c.loop-c.invariant.1 c.loop-c.invariant.0 c.in-Some-part_end.ensures) c.run_end-at-in-Some-part_end.ensures.run)

pub returns-in-None : goal.returns-in-None
returns-in-None c =
    local_stops c.args.text.now c.args.from c.loop-c.last c.loop-c.at c.loop-c.invariant.1 c.in-None.ensures

pub returns : goal.returns
returns c =
    local_ends c.args.text.now c.args.from c.loop-c.last c.loop-c.at c.loop-c.invariant.1 (end_here c.args.text.now c.loop-c.at c.char_at.result c.in_default.not-Some c.char_at.ensures)
