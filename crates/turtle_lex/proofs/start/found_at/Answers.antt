use Rattle.turtle_lex.proofs.Assembly.{finds_token, finds_none, opened_plain, reads_as}
use Rattle.turtle_lex.proofs.start.found_at.Goals as goal

pub iri_at-requires-clause-reads : goal.iri_at-requires-clause-reads
iri_at-requires-clause-reads c =
    reads_as c.args.text.now c.args.at c.args.c 60 c.args.next c.if-c-eq60.true c.requires.reads

pub double_quoted_at-requires-clause-reads : goal.double_quoted_at-requires-clause-reads
double_quoted_at-requires-clause-reads c =
    reads_as c.args.text.now c.args.at c.args.c 34 c.args.next c.if-c-eq34.true c.requires.reads

pub single_quoted_at-requires-clause-reads : goal.single_quoted_at-requires-clause-reads
single_quoted_at-requires-clause-reads c =
    reads_as c.args.text.now c.args.at c.args.c 39 c.args.next c.if-c-eq39.true c.requires.reads

pub returns-in-None : goal.returns-in-None
returns-in-None c =
    finds_none c.args.text.now c.args.at c.args.c c.args.next c.requires.place c.requires.reads (opened_plain c.args.text.now c.args.at c.args.c c.args.next c.requires.reads c.if-c-eq60.false c.if-c-eq34.false c.if-c-eq39.false) c.in-None.ensures

pub returns-in-Some : goal.returns-in-Some
returns-in-Some c =
    finds_token c.args.text.now c.args.at c.in-Some.token c.requires.place (opened_plain c.args.text.now c.args.at c.args.c c.args.next c.requires.reads c.if-c-eq60.false c.if-c-eq34.false c.if-c-eq39.false) c.in-Some.ensures
