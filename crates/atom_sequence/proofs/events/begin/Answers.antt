use Rattle.std.proofs.Common.{arith}
use Rattle.atom_sequence.proofs.Listing.{begins_all}
use Rattle.atom_sequence.proofs.events.begin.Goals as goal

pub returns : goal.returns
returns c = begins_all c.args.lists.now c.loop-place.cursors (omega arith) (λ k lt. c.loop-place.invariant k (omega (arith, lt)))
