use Rattle.std.proofs.Common.{◌≡◌, Bool, true, false, refl, sym, ◌∙◌, true≢false, arith}
use Rattle.state_store.specs.Properties.{with_property, fit}
use Rattle.state_store.specs.Shelf.{value_of}
use Rattle.state_store.specs.Slots.{rows_of}
use Rattle.state_store.proofs.Kept.{slots_few, bytes_few, former_within, fits_at, full_at}
use Rattle.state_store.proofs.slots.has_room.Goals as goal

pub are_within-requires-clause-slots : goal.are_within-requires-clause-slots
are_within-requires-clause-slots c = omega (arith, slots_few c.args.slots.now c.args.bytes.now c.requires.room)

pub are_within-requires-clause-bytes : goal.are_within-requires-clause-bytes
are_within-requires-clause-bytes c = omega (arith, bytes_few c.args.slots.now c.args.bytes.now c.requires.packed c.requires.room)

pub are_within-requires-clause-former : goal.are_within-requires-clause-former
are_within-requires-clause-former c = omega (arith, former_within c.args.slots.now c.args.bytes.now c.args.place c.args.slot.key c.requires.place c.requires.packed)

pub returns-clause-fits : goal.returns-clause-fits
returns-clause-fits c = by c.are_within.result refl
  where
    by : (b : Bool) → c.are_within.result ≡ b → c.are_within.result ≡ fit (with_property (rows_of c.args.slots.now c.args.bytes.now) c.args.slot.key (value_of c.args.slot.kind c.args.slot.flags c.args.value.now))
    by true is =
        let room = c.are_within.ensures.0 is in
        is ∙ sym (fits_at c.args.slots.now c.args.bytes.now c.args.value.now c.args.slot c.args.place c.requires.place c.requires.packed c.requires.size c.requires.rising
        (omega (arith, room.0)) (omega (arith, room.1, c.requires.size)))
    by false is =
        is ∙ sym (full_at c.args.slots.now c.args.bytes.now c.args.value.now c.args.slot c.args.place c.requires.place c.requires.packed c.requires.size c.requires.rising
        (λ room. true≢false (sym (c.are_within.ensures.1 (omega (arith, room.0), omega (arith, room.1, c.requires.size))) ∙ is)))
