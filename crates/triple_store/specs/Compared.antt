-- What comparing a triple with the first rows of its subject tells.
use Rattle.std.specs.Prelude.{◌<◌, ◌≤◌, List, length, take, Contains}
use Rattle.triple_store.specs.declared.compared.Compared.{Compared}
use Rattle.triple_store.specs.declared.compared.Compared.TheVariants.{There, Missing, Undecided}
use Rattle.triple_store.specs.declared.late.TheConstants.{COMPARED}
use Rattle.triple_store.specs.declared.term.Triple.{Triple}

abbrev pub Tells : List Triple → Triple → Compared → Type 0
Tells rows t There = Contains rows t
Tells rows t Missing = (¬ Contains rows t) × (length rows < COMPARED)
Tells rows t Undecided = (¬ Contains (take COMPARED rows) t) × (COMPARED ≤ length rows)
