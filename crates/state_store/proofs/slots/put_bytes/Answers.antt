use Rattle.std.proofs.Common.{◌-◌, arith}
use Rattle.state_store.proofs.Kept.{turned}
use Rattle.state_store.proofs.slots.put_bytes.Goals as goal

pub returns-clause-bytes : goal.returns-clause-bytes
returns-clause-bytes c =
    turned c.args.bytes.now.items c.args.value.now c.rotate_left.new.self.items c.truncate.new.self.items c.append.new.bytes.items c.rotate_left-2.new.self.items
    c.args.place c.unwrap_or-former.result (c.len.result - c.args.place.offset - c.unwrap_or-former.result) c.unwrap_or-former.ensures
    (omega (arith, c.requires.within, c.len.ensures, c.args.bytes.now.ok.0, c.unwrap_or-former.ensures))
    c.rotate_left.ensures.items c.truncate.ensures.items c.append.ensures.bytes c.rotate_left-2.ensures.items
