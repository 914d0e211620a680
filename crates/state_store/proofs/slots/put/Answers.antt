use Rattle.std.proofs.Common.{arith}
use Rattle.state_store.proofs.Kept.{put_rows, put_packed, former_within}
use Rattle.state_store.proofs.slots.put.Goals as goal

pub put_bytes-requires-clause-within : goal.put_bytes-requires-clause-within
put_bytes-requires-clause-within c = former_within c.args.slots.now.items c.args.bytes.now.items c.args.place c.args.slot.key c.requires.place c.requires.packed

pub returns-clause-rows : goal.returns-clause-rows
returns-clause-rows c =
    put_rows c.args.slots.now.items c.args.bytes.now.items c.args.value.now c.args.slot c.args.place c.put_slot.new.slots.items c.put_bytes.new.bytes.items
    c.requires.place c.put_slot.ensures.slots c.put_bytes.ensures.bytes c.requires.packed c.requires.size c.requires.rising

pub returns-clause-packed : goal.returns-clause-packed
returns-clause-packed c =
    put_packed c.args.slots.now.items c.args.bytes.now.items c.args.value.now c.args.slot c.args.place c.put_slot.new.slots.items c.put_bytes.new.bytes.items
    c.requires.place c.put_slot.ensures.slots c.put_bytes.ensures.bytes c.requires.packed c.requires.size
