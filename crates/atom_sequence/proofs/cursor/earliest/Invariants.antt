use Rattle.atom_sequence.specs.Cursors.{IsBest}
use Rattle.atom_sequence.proofs.cursor.earliest.Given as goal

abbrev pub invariant-loop-place : goal.invariant-loop-place
invariant-loop-place l = IsBest l.cursors l.place l.best
