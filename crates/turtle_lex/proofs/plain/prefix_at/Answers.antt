use Rattle.std.proofs.Common.{refl, None}
use Rattle.turtle_lex.specs.Names.{prefix, colon}
use Rattle.turtle_lex.proofs.NameSteps.{prefix_colon}
use Rattle.turtle_lex.proofs.LocalSteps.{at_char}
use Rattle.turtle_lex.proofs.Picked.{pick_through, pick_none_last}
use Rattle.turtle_lex.proofs.plain.prefix_at.Goals as goal

pub returns-in-None : goal.returns-in-None
returns-in-None c =
    c.name_end-end.ensures.carries None (pick_none_last c.args.text.now c.name_end-end.result prefix c.name_end-end.ensures.place c.in-None.ensures refl)

pub returns-then-c-eq58 : goal.returns-then-c-eq58
returns-then-c-eq58 c =
    c.name_end-end.ensures.carries c.local_at.result (pick_through c.args.text.now c.name_end-end.result c.in-Some.c c.in-Some.next prefix colon c.local_at.result c.name_end-end.ensures.place c.in-Some.ensures (at_char prefix colon c.in-Some.c 58 c.if-c-eq58.true prefix_colon) refl c.local_at.ensures)

pub returns-else-c-eq58 : goal.returns-else-c-eq58
returns-else-c-eq58 c =
    c.name_end-end.ensures.carries None (c.name_end-end.ensures.ends c.in-Some.c c.in-Some.next c.in-Some.ensures c.if-c-eq58.false)
