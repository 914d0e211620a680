use Rattle.std.proofs.Common.{ℕ, ◌<◌}
use Rattle.atom_sequence.proofs.Listing.{Begins}
use Rattle.atom_sequence.proofs.events.begin.Given as goal

-- the cursors so far stand at the first events of their lists
abbrev pub invariant-loop-place : goal.invariant-loop-place
invariant-loop-place l = (k : ℕ) → k < l.place → Begins l.lists l.cursors k
