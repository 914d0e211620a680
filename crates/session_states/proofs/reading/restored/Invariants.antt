use Rattle.std.proofs.Common.{◌≡◌, ◌++◌, drop, map}
use Rattle.session_states.specs.Answer.{restored}
use Rattle.session_states.proofs.reading.restored.Given as goal

-- the properties so far, and those of the restores left
abbrev pub invariant-loop-restore : goal.invariant-loop-restore
invariant-loop-restore l =
    l.states ++ map (restored l.paths.keys l.files) (drop l.restore-index l.restores) ≡ map (restored l.paths.keys l.files) l.restores
