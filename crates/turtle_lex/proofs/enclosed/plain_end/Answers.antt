use Rattle.turtle_lex.proofs.Runs.{short_run, long_run}
use Rattle.turtle_lex.proofs.enclosed.plain_end.Goals as goal

pub returns-clause-short : goal.returns-clause-short
returns-clause-short c = short_run c.args.enclosure c.args.text.now c.args.from c.run_end.result c.requires c.run_end.ensures.run

pub returns-clause-long : goal.returns-clause-long
returns-clause-long c = long_run c.args.enclosure c.args.text.now c.args.from c.run_end.result c.requires c.run_end.ensures.run
