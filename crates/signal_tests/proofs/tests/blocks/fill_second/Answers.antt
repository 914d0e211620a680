use Rattle.std.proofs.Common.{arith}
use Rattle.block_signals.specs.Board.{blank}
use Rattle.signal_tests.proofs.tests.blocks.fill_second.Goals as goal

pub fill-requires-clause-there : goal.fill-requires-clause-there
fill-requires-clause-there c = omega (arith, c.in_ok-inlets.ensures.all)

pub fill-requires-clause-known : goal.fill-requires-clause-known
fill-requires-clause-known c = (c.args.setup.now, blank, c.requires, c.in_ok-outlets.ensures, c.in_ok-inlets.ensures)
