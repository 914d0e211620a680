use Rattle.plugin_decl.proofs.PortFacts.{SoFar}
use Rattle.plugin_decl.proofs.port_facts.PortFacts.with_rows.Given as goal

-- the facts of the rows so far, and those that are left
abbrev pub invariant-loop-row : goal.invariant-loop-row
invariant-loop-row l = (goal.iterator-loop-row).can_next l.row-iterator × (goal.iterator-loop-row).is_finite l.row-iterator × SoFar l.fn.rows l.row-iterator l.facts
