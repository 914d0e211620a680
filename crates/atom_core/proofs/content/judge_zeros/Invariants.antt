use Rattle.atom_core.specs.Place.{AreZero}
use Rattle.atom_core.proofs.content.judge_zeros.Given as goal

abbrev pub invariant-loop-place : goal.invariant-loop-place
invariant-loop-place l = AreZero l.bytes l.from l.place
