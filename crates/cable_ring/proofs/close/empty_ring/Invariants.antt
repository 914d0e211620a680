use Rattle.std.proofs.Common.{vec_capacity, vec_len, ◌≡◌, ◌≤◌, ◌%◌, length}
use Rattle.std.specs.Mem.Slots.{slots_items, slots_filled, slots_len}
use Rattle.cable_ring.specs.Emptied.{found_in}
use Rattle.cable_ring.proofs.Emptying.{IsEmptying}
use Rattle.cable_ring.proofs.close.empty_ring.Given as goal

-- so many cells are empty, and the row has what was in them
abbrev pub invariant-loop-number : goal.invariant-loop-number
invariant-loop-number g l = record {
  row : l.row.items ≡ found_in (slots_items l.fn.closed.slots) l.cells l.ring l.first l.number;
  fits : vec_len l.row ≤ l.number;
  room : l.cells ≤ vec_capacity l.row;
  emptied : IsEmptying l.cells l.ring l.first l.number (slots_filled l.fn.closed.slots) (slots_filled l.closed.slots);
  items : slots_items l.closed.slots ≡ slots_items l.fn.closed.slots;
  len : slots_len l.closed.slots ≡ slots_len l.fn.closed.slots;
  words : l.closed.words ≡ l.fn.closed.words;
}
