use Rattle.turtle_lex.proofs.Assembly.{not_two_end, not_two_first, reads_as}
use Rattle.turtle_lex.proofs.start.long_opening_end.Goals as goal

pub returns-in-None : goal.returns-in-None
returns-in-None c =
    not_two_end c.args.quote _ c.in-None.ensures

pub second_quote_end-requires-clause-first : goal.second_quote_end-requires-clause-first
second_quote_end-requires-clause-first c =
    reads_as c.args.text.now c.args.at c.in-Some.c c.args.quote c.in-Some.next c.if-c-quote.true c.in-Some.ensures

pub returns-else-c-quote : goal.returns-else-c-quote
returns-else-c-quote c =
    not_two_first c.args.quote c.args.text.now c.args.at c.in-Some.c c.in-Some.next c.in-Some.ensures c.if-c-quote.false
