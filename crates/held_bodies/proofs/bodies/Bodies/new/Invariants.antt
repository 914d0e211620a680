use Rattle.std.proofs.Common.{◌≡◌, length}
use Rattle.held_bodies.proofs.Empty.{AreEmpty}
use Rattle.held_bodies.proofs.bodies.Bodies.new.Given as goal

-- nothing waits on the rings so far
abbrev pub invariant-loop : goal.invariant-loop
invariant-loop l = (length l.each.items ≡ l.counter) × AreEmpty l.each.items
