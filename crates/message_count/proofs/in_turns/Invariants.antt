use Rattle.cable_ring.specs.Tables.{table_of}
use Rattle.message_count.specs.Wired.{IsWired}
use Rattle.message_count.proofs.in_turns.Given as goal

abbrev pub invariant-loop-number : goal.invariant-loop-number
invariant-loop-number l = IsWired (table_of l.cable) 0 l.sender × IsWired (table_of l.cable) 1 l.taker
