use Rattle.std.proofs.Common.{◌≡◌, length}
use Rattle.run_outcome.proofs.Nothing.{HoldsNothing}
use Rattle.run_outcome.proofs.outcome.nothing.Given as goal

-- nothing is known of the actions so far
abbrev pub invariant-loop : goal.invariant-loop
invariant-loop g l = (length l.kept ≡ l.counter) × HoldsNothing l.kept
