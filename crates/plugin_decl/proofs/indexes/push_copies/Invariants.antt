use Rattle.std.proofs.Common.{◌≡◌, ◌++◌}
use Rattle.plugin_decl.proofs.indexes.push_copies.Given as goal

-- the terms so far, and those that are left
abbrev pub invariant-loop-term : goal.invariant-loop-term
invariant-loop-term l = (goal.iterator-loop-term).can_next l.term-iterator × (goal.iterator-loop-term).is_finite l.term-iterator × (l.terms ++ l.term-iterator ≡ l.initial.terms ++ l.fn.found)
