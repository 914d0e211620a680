use Rattle.std.proofs.Common.{◌≡◌, map, filter, length}
use Rattle.triple_store.specs.declared.term.Triple.{Triple}
use Rattle.plugin_decl.specs.Naming.{names}
use Rattle.plugin_decl.specs.Objects.{object}
use Rattle.plugin_decl.proofs.objects.FoundIterator.next.Given as goal

abbrev pub invariant-loop-row : goal.invariant-loop-row
invariant-loop-row l = map object (filter (λ (row : Triple). names l.self-inside.predicate row.p) l.self-inside.rows) ≡ l.fn.self

abbrev pub decreases-loop-row : goal.decreases-loop-row
decreases-loop-row l = length l.self-inside.rows
