use Rattle.std.proofs.Common.{◌≡◌, ◌≤◌, ◌++◌, length, drop}
use Rattle.state_store.specs.Slots.{rows_of, size_of}
use Rattle.state_store.proofs.slots.copy_rows.Given as goal

-- the rows so far, and those of the slots and the bytes that are left
abbrev pub invariant-loop-slot : goal.invariant-loop-slot
invariant-loop-slot l = (l.rows.items ++ rows_of (drop l.slot-index l.slots) l.left ≡ rows_of l.slots l.bytes)
    × (size_of (drop l.slot-index l.slots) ≤ length l.left)
