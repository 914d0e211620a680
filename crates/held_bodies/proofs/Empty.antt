-- Rings on which nothing waits.
use Rattle.std.proofs.Common.{◌≡◌, ℕ, zero, suc, List, [], ◌∷◌, ◌++◌, slice_get, Some, ap, subst}
use Rattle.std.specs.Prelude.{unwrap_or}
use Rattle.std.proofs.lemmas.Option.{none-some}
use Rattle.held_bodies.specs.declared.bodies.InstBodies.{InstBodies}

pub record IsEmpty (it : InstBodies) : Type 0 where
  pub no_jobs : it.jobs.items ≡ []
  pub no_responses : it.responses.items ≡ []
  pub no_local : it.local.items ≡ []

abbrev pub AreEmpty : List InstBodies → Type 0
AreEmpty each = (inst : ℕ) (it : InstBodies) → slice_get each inst ≡ Some it → IsEmpty it

pub one_more_empty : (each : List InstBodies) (new : InstBodies) → AreEmpty each → IsEmpty new → AreEmpty (each ++ new ∷ [])
one_more_empty [] new empty is zero it got = subst IsEmpty (ap (λ o. unwrap_or o it) got) is
one_more_empty [] new empty is (suc inst) it got = absurd (none-some it got)
one_more_empty (x ∷ each) new empty is zero it got = empty 0 it got
one_more_empty (x ∷ each) new empty is (suc inst) it got = one_more_empty each new (λ i. empty (suc i)) is inst it got
