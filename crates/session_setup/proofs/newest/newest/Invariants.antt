use Rattle.session_setup.specs.Newest.{Finds}
use Rattle.session_setup.proofs.newest.newest.Given as goal

-- the bundle that counts among those so far
abbrev pub invariant-loop-place : goal.invariant-loop-place
invariant-loop-place l = Finds l.bundles l.uri l.place l.found
