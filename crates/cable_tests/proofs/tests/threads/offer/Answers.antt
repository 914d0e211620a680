use Rattle.std.proofs.Common.{rules, arith}
use Rattle.cable_tests.proofs.Readies.{ready_sends}
use Rattle.cable_tests.proofs.tests.threads.offer.Goals as goal

pub send-requires : goal.send-requires
send-requires c = record { table = c.requires.table_is; left = search rules; sender = ready_sends _ _ _ c.requires }
