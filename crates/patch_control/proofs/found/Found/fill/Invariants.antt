use Rattle.atom_core.specs.Value.{Parts}
use Rattle.atom_core.specs.Atoms.{SpellProperties}
use Rattle.patch_control.specs.Gathering.{Gathers}
use Rattle.patch_control.proofs.Gathered.{Left}
use Rattle.patch_control.proofs.found.Found.fill.Given as goal

-- what was found so far, and what is left
abbrev pub invariant-loop-key : goal.invariant-loop-key
invariant-loop-key l = (all : Parts) → SpellProperties l.fn.properties all → Gathers all l.fn.self all → Left all l.properties l.self
