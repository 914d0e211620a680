use Rattle.std.proofs.Common.{◌≡◌, ◌+◌, drop}
use Rattle.state_store.specs.Slots.{size_of, behind, place_of}
use Rattle.state_store.proofs.slots.place_of.Given as goal

-- the slots so far stand before the place, and their bytes before its bytes
abbrev pub invariant-loop-index : goal.invariant-loop-index
invariant-loop-index l = (place_of l.slots l.key ≡ behind l.index l.offset (place_of (drop l.index l.slots) l.key))
    × (l.offset + size_of (drop l.index l.slots) ≡ size_of l.slots)
