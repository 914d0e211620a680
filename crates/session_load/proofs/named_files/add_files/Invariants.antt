use Rattle.std.proofs.Common.{◌≡◌}
use Rattle.session_load.proofs.Once.{so_far}
use Rattle.session_load.proofs.named_files.add_files.Given as goal

-- the files so far, and those that the rows that are left name
abbrev pub invariant-loop-row : goal.invariant-loop-row
invariant-loop-row l = (goal.iterator-loop-row).can_next l.row-iterator × (goal.iterator-loop-row).is_finite l.row-iterator × (so_far l.plugins.keys l.folder l.files.keys l.row-iterator ≡ so_far l.plugins.keys l.folder l.initial.files.keys l.fn.rows)
