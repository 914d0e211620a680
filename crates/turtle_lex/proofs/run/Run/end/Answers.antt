use Rattle.turtle_lex.proofs.Runs.{run_is}
use Rattle.turtle_lex.proofs.run.Run.end.Goals as goal

pub returns : goal.returns
returns c = run_is c.args.self c.args.text.now c.args.from c.run_end.result c.requires c.run_end.ensures.place c.run_end.ensures.run
