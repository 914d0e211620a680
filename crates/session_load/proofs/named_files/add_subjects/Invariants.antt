use Rattle.std.proofs.Common.{◌≡◌}
use Rattle.triple_store.specs.declared.term.Term.{Term}
use Rattle.session_load.proofs.Plugins.{finds}
use Rattle.session_load.proofs.named_files.add_subjects.Given as goal

-- the terms so far, and the subjects of the rows that are left
abbrev pub invariant-loop-row : goal.invariant-loop-row
invariant-loop-row l = (goal.iterator-loop-row).can_next l.row-iterator × (goal.iterator-loop-row).is_finite l.row-iterator × ((s : Term) → finds l.terms.keys l.row-iterator s ≡ finds l.initial.terms.keys l.fn.rows s)
