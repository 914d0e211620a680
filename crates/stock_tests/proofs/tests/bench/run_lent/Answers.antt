use Rattle.std.proofs.Common.{sym, ◌∙◌}
use Rattle.stock_tests.proofs.Lends.{lends, outs_there}
use Rattle.stock_tests.proofs.tests.bench.run_lent.Goals as goal

pub run-requires-clause-ports : goal.run-requires-clause-ports
run-requires-clause-ports c κs = c.requires.lends.ports ∙ sym c.requires.ports

pub run-requires-clause-lent : goal.run-requires-clause-lent
run-requires-clause-lent c κs = lends c.args.ports.now c.args.decl.now c.requires.lends

pub returns-clause-outs : goal.returns-clause-outs
returns-clause-outs c =
    outs_there c.args.ports.now c.run.new.ports c.args.decl.now c.run.ensures.ran.1 c.requires.lends c.run.ensures.ran.3 c.run.ensures.ran.4
    c.run.ensures.same_loan
