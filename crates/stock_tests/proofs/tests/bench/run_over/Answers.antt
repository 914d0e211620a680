use Rattle.std.proofs.Common.{◌∙◌}
use Rattle.stock_tests.proofs.Lends.{over_lends}
use Rattle.stock_tests.proofs.tests.bench.run_over.Goals as goal

pub run_lent-requires-clause-lends : goal.run_lent-requires-clause-lends
run_lent-requires-clause-lends c =
    let bench = c.args.bench.now in
    over_lends c.over-ports.result bench.decl bench.ins c.args.outs.now c.args.of.now (c.over-ports.ensures.ports ∙ c.as_slice.ensures)
    c.over-ports.ensures.inputs c.over-ports.ensures.places c.over-ports.ensures.outputs c.requires.bench c.requires.events c.requires.outs
    c.requires.places c.requires.own
