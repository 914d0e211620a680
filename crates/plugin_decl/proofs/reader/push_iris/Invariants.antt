use Rattle.std.proofs.Common.{◌≡◌, ◌++◌}
use Rattle.std.specs.List.{filter_map}
use Rattle.plugin_decl.specs.Values.{iri_in}
use Rattle.plugin_decl.proofs.reader.push_iris.Given as goal

-- the IRIs so far, and those that are left
abbrev pub invariant-loop-object : goal.invariant-loop-object
invariant-loop-object l = (goal.iterator-loop-object).can_next l.object-iterator × (goal.iterator-loop-object).is_finite l.object-iterator × (l.iris ++ filter_map iri_in l.object-iterator ≡ l.initial.iris ++ filter_map iri_in l.fn.found)
