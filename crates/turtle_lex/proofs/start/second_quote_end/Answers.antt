use Rattle.turtle_lex.proofs.Assembly.{not_two_second_end, not_two_second, reads_as}
use Rattle.turtle_lex.proofs.start.second_quote_end.Goals as goal

pub returns-in-None : goal.returns-in-None
returns-in-None c =
    not_two_second_end c.args.quote c.args.text.now c.args.at c.args.next c.requires.first c.in-None.ensures

pub returns-then-c-quote : goal.returns-then-c-quote
returns-then-c-quote c =
    (c.args.next, c.requires.first, reads_as c.args.text.now c.args.next c.in-Some.c c.args.quote c.in-Some.after c.if-c-quote.true c.in-Some.ensures)

pub returns-else-c-quote : goal.returns-else-c-quote
returns-else-c-quote c =
    not_two_second c.args.quote c.args.text.now c.args.at c.args.next c.in-Some.c c.in-Some.after c.requires.first c.in-Some.ensures c.if-c-quote.false
