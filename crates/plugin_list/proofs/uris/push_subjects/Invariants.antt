use Rattle.std.proofs.Common.{◌≡◌, ◌++◌}
use Rattle.std.specs.List.{filter_map}
use Rattle.plugin_list.specs.Plugins.{subject_iri}
use Rattle.plugin_list.proofs.uris.push_subjects.Given as goal

-- the IRIs so far, and those of the rows that are left
abbrev pub invariant-loop-row : goal.invariant-loop-row
invariant-loop-row l = (goal.iterator-loop-row).can_next l.row-iterator × (goal.iterator-loop-row).is_finite l.row-iterator × (l.uris ++ filter_map subject_iri l.row-iterator ≡ l.initial.uris ++ filter_map subject_iri l.fn.rows)
