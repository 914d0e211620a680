-- A token of one of the two ends.
use Rattle.std.specs.Prelude.{◌≡◌, ℕ, [], ◌∷◌}
use Rattle.atomic_table.specs.Seated.{TableId}
use Rattle.cable_ring.specs.Passes.{PassView}
use Rattle.cable_ring.specs.Opened.{plan_with}

-- it is an actor's of a cable with this table, whose one ring goes from actor 0 to actor 1
pub record IsWired {M : Type 0} (table : TableId) (actor : ℕ) (pass : PassView M) : Type 0 where
  pub table_is : pass.table ≡ table
  pub plan_is : pass.plan ≡ plan_with 0 64 2 (record { from = 0; to = 1 } ∷ [])
  pub actor_is : pass.actor ≡ actor
