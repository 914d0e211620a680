use Rattle.std.proofs.Common.{rules, arith}
use Rattle.cable_tests.proofs.Readies.{ready_noted, ready_same, ready_sends, ready_takes}
use Rattle.cable_tests.proofs.tests.rings.get.Goals as goal

pub take-requires : goal.take-requires
take-requires c = let ready = c.requires.0 in record { table = ready.table_is; left = omega (arith, ready.few); taker = ready_takes _ _ _ ready }
