use Rattle.std.proofs.Common.{◌^◌}
use Rattle.cable_ring.specs.Tables.{table_of}
use Rattle.cable_tests.specs.Ready.{IsReady}
use Rattle.cable_tests.proofs.tests.threads.take_all.Given as goal

abbrev pub invariant-loop : goal.invariant-loop
invariant-loop g l = IsReady (table_of l.cable) 1 (2 ^ 56) l.pass
