use Rattle.std.proofs.Common.{rules, arith, refl, sym, ap, subst, ◌∙◌, ◌≡◌, ◌+◌, ◌%◌, ◌<◌, ◌++◌, false, Bool, List, ℕ, Option, set, option_to_list}
use mathlib.Core.Option.{some}
use lib.ListN.{get_elem?}
use Rattle.std.specs.Mem.Slots.{slots_items, slots_filled}
use Rattle.cable_ring.specs.Cells.{slot}
use Rattle.cable_ring.specs.Emptied.{IsEmptied}
use Rattle.cable_ring.proofs.Emptying.{IsEmptying, emptying_none, emptying_more, emptying_all, found_more}
use Rattle.cable_ring.proofs.close.empty_ring.Goals as goal

pub loop-number-preserved : goal.loop-number-preserved
loop-number-preserved g c =
    let inv = c.loop-number.invariant in
    let cells : ℕ = c.args.cells in
    let ring : ℕ = c.args.ring in
    let first : ℕ = c.args.head % cells in
    let below : first < cells = omega (arith, c.requires.cells.0) in
    let n : ℕ = c.loop-number.number in
    let slots : List (Option g.row.M.Denot) = slots_items c.args.closed.now.slots in
    let old : List Bool = slots_filled c.args.closed.now.slots in
    let place = c.slot_of-slot.ensures in
    let here : get_elem? slots (slot cells ring (first + n)) ≡ some c.take.result = (λ i. get_elem? (sym inv.items i) (sym place i)) ∙ c.take.ensures.value in
    record {
      row = c.put_found.ensures.items ∙ ap (λ l. l ++ option_to_list c.take.result) inv.row ∙ sym (found_more slots cells ring first n c.take.result here);
      fits = omega (arith, c.put_found.ensures.room.0, inv.fits);
      room = omega (arith, c.put_found.ensures.room.1, inv.room);
      emptied = subst (λ bits. IsEmptying cells ring first (n + 1) old bits) (sym (c.take.ensures.others.1 ∙ ap (λ k. set (slots_filled c.loop-number.closed.slots) k false) place))
          (emptying_more cells ring first c.requires.cells.0 below n old (slots_filled c.loop-number.closed.slots) c.loop-number-test.true inv.emptied);
      items = c.take.ensures.others.0 ∙ inv.items;
      len = c.take.ensures.others.2 ∙ inv.len;
      words = c.take.ensures.others.3 ∙ inv.words;
    }

pub returns-clause-emptied : goal.returns-clause-emptied
returns-clause-emptied g c =
    let inv = c.loop-number.invariant in
    let first : ℕ = c.args.head % c.args.cells in
    let below : first < c.args.cells = omega (arith, c.requires.cells.0) in
    let all : c.loop-number.number ≡ c.args.cells = omega (arith, c.loop-number-test.false, c.loop-number.auto.number-end) in
    emptying_all c.args.cells c.args.ring first c.requires.cells.0 below (slots_filled c.args.closed.now.slots) (slots_filled c.loop-number.closed.slots)
    (subst (λ n. IsEmptying c.args.cells c.args.ring first n (slots_filled c.args.closed.now.slots) (slots_filled c.loop-number.closed.slots)) all inv.emptied)
