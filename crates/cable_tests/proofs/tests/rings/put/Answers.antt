use Rattle.std.proofs.Common.{rules, arith}
use Rattle.cable_tests.proofs.Readies.{ready_noted, ready_same, ready_sends, ready_takes}
use Rattle.cable_tests.proofs.tests.rings.put.Goals as goal

pub send-requires : goal.send-requires
send-requires c = let ready = c.requires.0 in record { table = ready.table_is; left = omega (arith, ready.few); sender = ready_sends _ _ _ ready }
