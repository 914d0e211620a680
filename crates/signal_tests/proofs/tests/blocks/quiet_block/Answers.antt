use Rattle.block_signals.specs.Board.{blank, block_begun}
use Rattle.signal_tests.proofs.tests.blocks.quiet_block.Goals as goal

pub put-requires-clause-known : goal.put-requires-clause-known
put-requires-clause-known c =
    (c.args.setup.now, block_begun blank, c.requires, c.begin_block.ensures c.args.setup.now blank c.requires c.in_ok-outlets.ensures, c.in_ok-channels.ensures)
