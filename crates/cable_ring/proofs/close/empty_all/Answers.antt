use Rattle.std.proofs.Common.{rules, arith, refl, sym, ap, subst, ◌∙◌, ◌≡◌, ℕ, ◌+◌, ◌*◌, ◌%◌, ◌<◌, ◌≤◌, ◌≢◌, [], Bool, List, length, length-set, map, set, vec_capacity, Option, Vec, Global}
use Rattle.std.specs.Mem.Slots.{slots_items, slots_filled, slots_len}
use Rattle.std.specs.Mem.Slots.Ownership.{Filled}
use mathlib.Core.Option.{some}
use lib.ListN.{get_elem?}
use Rattle.cable_ring.specs.Emptied.{found_in, IsEmptied, IsFoundAt}
use Rattle.cable_ring.proofs.CellSteps.{at-lt}
use Rattle.cable_ring.proofs.Emptying.{found_at_head, gone_more, filled_more, rows_more, rest_kept, rest_first, map_length}
use Rattle.cable_ring.proofs.close.empty_all.Goals as goal

pub empty_ring-requires-clause-room : goal.empty_ring-requires-clause-room
empty_ring-requires-clause-room g c =
    let inv = c.loop-ring.invariant in
    let row : Vec g.row.M.Denot Global = c.index_mut.result.now in
    let inside : c.loop-ring.ring < length c.loop-ring.rows.items = omega (arith, inv.count, c.loop-ring-test.true) in
    subst (λ (v : Vec g.row.M.Denot Global). (v.items ≡ []) × (c.args.cells ≤ vec_capacity v)) (sym c.index_mut.ensures.value)
    (rest_first (λ (v : Vec g.row.M.Denot Global). (v.items ≡ []) × (c.args.cells ≤ vec_capacity v)) c.loop-ring.rows.items c.loop-ring.ring row inside inv.room)

pub loop-ring-preserved : goal.loop-ring-preserved
loop-ring-preserved g c =
    let inv = c.loop-ring.invariant in
    let cells : ℕ = c.args.cells in
    let ring : ℕ = c.loop-ring.ring in
    let words : List ℕ = slots_items c.args.closed.now.words in
    let slots : List (Option g.row.M.Denot) = slots_items c.args.closed.now.slots in
    let row : Vec g.row.M.Denot Global = c.empty_ring.new.row in
    let emptied : IsEmptied cells ring (slots_filled c.loop-ring.closed.slots) (slots_filled c.empty_ring.new.closed.slots) = c.empty_ring.ensures.emptied in
    let same = c.empty_ring.ensures.same in
    let at : get_elem? words (16 * ring + 16) ≡ some c.word-head.result = (λ i. get_elem? (slots_items (sym inv.words i)) (16 * ring + 16)) ∙ c.word-head.ensures in
    let found : IsFoundAt words slots cells ring row.items = found_at_head words slots cells ring c.word-head.result row.items at (c.empty_ring.ensures.row ∙ ap (λ (l : List (Option g.row.M.Denot)). found_in l cells ring (c.word-head.result % cells) cells) inv.items) in
    record {
      count = length-set c.loop-ring.rows.items ring row ∙ inv.count;
      room = rest_kept (λ (v : Vec g.row.M.Denot Global). (v.items ≡ []) × (cells ≤ vec_capacity v)) c.loop-ring.rows.items ring row inv.room;
      found = rows_more (λ (v : Vec g.row.M.Denot Global). v.items) (λ r l. IsFoundAt words slots cells r l) c.loop-ring.rows.items ring row inv.found found;
      gone = gone_more cells ring (slots_filled c.loop-ring.closed.slots) (slots_filled c.empty_ring.new.closed.slots) emptied inv.gone;
      filled = subst (λ (n : ℕ). Filled (slots_filled c.empty_ring.new.closed.slots) ((ring + 1) * cells) n) (sym same.1)
          (filled_more cells ring (slots_filled c.loop-ring.closed.slots) (slots_filled c.empty_ring.new.closed.slots) emptied (slots_len c.loop-ring.closed.slots) inv.filled);
      items = same.0 ∙ inv.items;
      len = same.1 ∙ inv.len;
      words = same.2 ∙ inv.words;
    }

pub returns-clause-rows : goal.returns-clause-rows
returns-clause-rows g c = λ ring row e.
    let inv = c.loop-ring.invariant in
    let all : c.loop-ring.ring ≡ c.args.rings = omega (arith, c.loop-ring-test.false, c.loop-ring.auto.ring-end) in
    let inside : ring < length (map (λ (v : Vec g.row.M.Denot Global). v.items) c.loop-ring.rows.items) = at-lt (map (λ (v : Vec g.row.M.Denot Global). v.items) c.loop-ring.rows.items) ring row e in
    let below : ring < c.loop-ring.ring = omega (arith, map_length (λ (v : Vec g.row.M.Denot Global). v.items) c.loop-ring.rows.items, inv.count) in
    inv.found ring row below e
