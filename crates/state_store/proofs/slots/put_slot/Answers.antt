use Rattle.std.proofs.Common.{◌∙◌, arith}
use Rattle.state_store.proofs.Kept.{index_there, index_end, set_at_place, insert_at_place}
use Rattle.state_store.proofs.slots.put_slot.Goals as goal

pub index_mut-requires : goal.index_mut-requires
index_mut-requires c = omega (arith, index_there c.args.slots.now.items c.args.place c.args.slot.key c.in-Some.field-0 c.requires.place c.in-Some.is, c.args.slots.now.ok.0)

pub insert-requires-clause-within : goal.insert-requires-clause-within
insert-requires-clause-within c = omega (arith, index_end c.args.slots.now.items c.args.place c.args.slot.key c.requires.place, c.args.slots.now.ok.0)

pub returns-in-Some-clause-slots : goal.returns-in-Some-clause-slots
returns-in-Some-clause-slots c = set_at_place c.args.slots.now.items c.args.slot c.args.place c.in-Some.field-0 c.requires.place c.in-Some.is

pub returns-in-None-clause-slots : goal.returns-in-None-clause-slots
returns-in-None-clause-slots c = c.insert.ensures.slots ∙ insert_at_place c.args.slots.now.items c.args.slot c.args.place c.requires.place c.in-None.is
