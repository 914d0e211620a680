use Rattle.std.proofs.Common.{◌≡◌, drop}
use Rattle.session_states.proofs.Items.{so_far}
use Rattle.session_states.proofs.paths.add_paths.Given as goal

-- the paths so far, and those that the restores left bring
abbrev pub invariant-loop-restore : goal.invariant-loop-restore
invariant-loop-restore l = so_far l.paths.keys (drop l.restore-index l.restores) ≡ so_far l.initial.paths.keys l.restores
