-- A token that a test may use.
use Rattle.std.specs.Prelude.{◌≡◌, ℕ, ◌≤◌, [], ◌∷◌, length}
use Rattle.atomic_table.specs.Seated.{TableId}
use Rattle.cable_ring.specs.declared.view.Plan.{Plan}
use Rattle.cable_ring.specs.Passes.{PassView}
use Rattle.cable_ring.specs.Opened.{plan_with}

-- a cable with one cell in its one ring, from actor 0 to actor 1
abbrev pub one_ring : Plan
one_ring = plan_with 0 1 2 (record { from = 0; to = 1 } ∷ [])

-- it is an actor's of such a cable, and the actor has done at most so many things
pub record IsReady (table : TableId) (actor most : ℕ) (pass : PassView ℕ) : Type 0 where
  pub table_is : pass.table ≡ table
  pub plan_is : pass.plan ≡ one_ring
  pub actor_is : pass.actor ≡ actor
  pub few : length pass.events ≤ most
