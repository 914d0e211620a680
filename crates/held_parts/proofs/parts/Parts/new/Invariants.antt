use Rattle.std.proofs.Common.{◌≡◌, length}
use Rattle.held_parts.proofs.Away.{AreAway}
use Rattle.held_parts.proofs.parts.Parts.new.Given as goal

-- nobody stands at the places so far
abbrev pub invariant-loop : goal.invariant-loop
invariant-loop g l = (length l.places.items ≡ l.counter) × AreAway l.places.items
