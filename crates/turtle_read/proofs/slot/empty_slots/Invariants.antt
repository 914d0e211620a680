use Rattle.std.proofs.Common.{◌≡◌, All, None}
use Rattle.turtle_read.proofs.slot.empty_slots.Given as goal

abbrev pub invariant-loop : goal.invariant-loop
invariant-loop g l = All (λ slot. slot ≡ None) l.slots.items
