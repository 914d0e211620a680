use Rattle.std.proofs.Common.{rules, arith}
use Rattle.message_count.proofs.Wirings.{wired_sends}
use Rattle.message_count.proofs.send_once.Goals as goal

pub send-requires : goal.send-requires
send-requires c = record { table = c.requires.table_is; left = search rules; sender = wired_sends _ _ c.requires }
