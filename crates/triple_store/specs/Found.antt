-- What a look for a triple tells.
use Rattle.std.specs.Prelude.{◌≡◌, List, Contains}
use Rattle.triple_store.specs.Late.{is_late}
use Rattle.triple_store.specs.declared.store.Found.{Found}
use Rattle.triple_store.specs.declared.store.Found.TheVariants.{There, Missing}
use Rattle.triple_store.specs.declared.term.Triple.{Triple}

-- whether it is a row, and else whether it would be a late one at the end
abbrev pub IsFoundAs : List Triple → Triple → Found → Type 0
IsFoundAs rows t There = Contains rows t
IsFoundAs rows t (Missing late) = (¬ Contains rows t) × (late ≡ is_late rows t)
