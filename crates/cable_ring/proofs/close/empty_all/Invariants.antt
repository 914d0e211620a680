use Rattle.std.proofs.Common.{vec_capacity, All, List, map, drop, ◌≡◌, ℕ, ◌*◌, ◌<◌, ◌≤◌, false, [], length, get_or}
use mathlib.Core.Option.{some}
use lib.ListN.{get_elem?}
use Rattle.std.specs.Mem.Slots.{slots_items, slots_filled, slots_len}
use Rattle.std.specs.Mem.Slots.Ownership.{Filled}
use Rattle.cable_ring.specs.Emptied.{IsFoundAt}
use Rattle.cable_ring.proofs.close.empty_all.Given as goal

-- the cells of the rings so far are empty, and their rows have what was in them
abbrev pub invariant-loop-ring : goal.invariant-loop-ring
invariant-loop-ring g l = record {
  count : length l.rows.items ≡ l.rings;
  room : All (λ row. (row.items ≡ []) × (l.cells ≤ vec_capacity row)) (drop l.ring l.rows.items);
  found : (ring : ℕ) (row : List g.row.M.Denot) → ring < l.ring → get_elem? (map (λ v. v.items) l.rows.items) ring ≡ some row → IsFoundAt (slots_items l.fn.closed.words) (slots_items l.fn.closed.slots) l.cells ring row;
  gone : (place : ℕ) → place < l.ring * l.cells → get_or (slots_filled l.closed.slots) place false ≡ false;
  filled : Filled (slots_filled l.closed.slots) (l.ring * l.cells) (slots_len l.closed.slots);
  items : slots_items l.closed.slots ≡ slots_items l.fn.closed.slots;
  len : slots_len l.closed.slots ≡ slots_len l.fn.closed.slots;
  words : l.closed.words ≡ l.fn.closed.words;
}
