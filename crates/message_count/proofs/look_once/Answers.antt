use Rattle.std.proofs.Common.{rules, arith}
use Rattle.message_count.proofs.Wirings.{wired_takes}
use Rattle.message_count.proofs.look_once.Goals as goal

pub look-requires : goal.look-requires
look-requires c = record { table = c.requires.table_is; left = search rules; taker = wired_takes _ _ c.requires }
