use Rattle.std.proofs.Common.{◌≡◌, map, filter, length}
use Rattle.triple_store.specs.declared.term.Triple.{Triple}
use Rattle.state_file.specs.Objects.{names, is_of_kind}
use Rattle.state_file.proofs.objects.FoundIterator.next.Given as goal

abbrev pub invariant-loop-row : goal.invariant-loop-row
invariant-loop-row l =
    filter (is_of_kind l.self-inside.kind) (map (λ (row : Triple). row.o) (filter (λ (row : Triple). names l.self-inside.predicate row.p) l.self-inside.rows)) ≡ l.fn.self

abbrev pub decreases-loop-row : goal.decreases-loop-row
decreases-loop-row l = length l.self-inside.rows
