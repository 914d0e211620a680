use Rattle.cable_ring.specs.Tables.{table_of}
use Rattle.message_count.specs.Wired.{IsWired}
use Rattle.message_count.proofs.send_all.Given as goal

abbrev pub invariant-loop : goal.invariant-loop
invariant-loop g l = IsWired (table_of l.cable) 0 l.pass
