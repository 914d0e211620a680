use Rattle.std.proofs.Common.{vec_capacity, ◌≡◌, ◌≤◌, [], length, All}
use Rattle.cable_ring.proofs.close.with_room.Given as goal

-- so many rows have room
abbrev pub invariant-loop-ring : goal.invariant-loop-ring
invariant-loop-ring g l = record {
  count : length l.rows.items ≡ l.ring;
  room : All (λ row. (row.items ≡ []) × (l.cells ≤ vec_capacity row)) l.rows.items;
}
