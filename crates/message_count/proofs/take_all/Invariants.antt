use Rattle.cable_ring.specs.Tables.{table_of}
use Rattle.message_count.specs.Wired.{IsWired}
use Rattle.message_count.proofs.take_all.Given as goal

abbrev pub invariant-loop : goal.invariant-loop
invariant-loop g l = IsWired (table_of l.cable) 1 l.pass
