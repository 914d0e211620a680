use Rattle.std.proofs.Common.{rules, arith}
use Rattle.cable_tests.proofs.Readies.{ready_takes}
use Rattle.cable_tests.proofs.tests.threads.receive.Goals as goal

pub look-requires : goal.look-requires
look-requires c = record { table = c.requires.table_is; left = search rules; taker = ready_takes _ _ _ c.requires }
