use Rattle.std.proofs.Common.{◌≤◌, ◌-◌, length}
use Rattle.iri_resolve.proofs.Undotted.{UndottedTo}
use Rattle.iri_resolve.proofs.dots.is_undotted.Given as goal

abbrev pub invariant-loop-found : goal.invariant-loop-found
invariant-loop-found l = record {
  within : l.from ≤ length l.path;
  seen : UndottedTo l.path l.from;
}

abbrev pub decreases-loop-found : goal.decreases-loop-found
decreases-loop-found l = length l.path - l.from
