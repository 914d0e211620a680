use Rattle.std.proofs.Common.{arith}
use Rattle.turtle_lex.proofs.Assembly.{start_none, start_other, start_mark}
use Rattle.turtle_lex.proofs.lexer.behind_mark.Goals as goal

pub char_at-requires : goal.char_at-requires
char_at-requires c =
    record { inside = omega arith; utf8 = c.utf8.text }

pub returns-in-None-clause-place : goal.returns-in-None-clause-place
returns-in-None-clause-place c =
    record { inside = omega arith; utf8 = c.utf8.text }

pub returns-in-None-clause-value : goal.returns-in-None-clause-value
returns-in-None-clause-value c =
    start_none c.args.text.now c.in-None.ensures

pub returns-then-c-eq65279-clause-value : goal.returns-then-c-eq65279-clause-value
returns-then-c-eq65279-clause-value c =
    start_mark c.args.text.now c.in-Some.c c.in-Some.next (record { inside = omega arith; utf8 = c.utf8.text }) c.in-Some.ensures c.if-c-eq65279.true

pub returns-else-c-eq65279-clause-place : goal.returns-else-c-eq65279-clause-place
returns-else-c-eq65279-clause-place c =
    record { inside = omega arith; utf8 = c.utf8.text }

pub returns-else-c-eq65279-clause-value : goal.returns-else-c-eq65279-clause-value
returns-else-c-eq65279-clause-value c =
    start_other c.args.text.now c.in-Some.c c.in-Some.next c.in-Some.ensures c.if-c-eq65279.false
