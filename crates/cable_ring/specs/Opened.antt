-- A cable at the start.
use Rattle.std.specs.Prelude.{◌≡◌, ℕ, ◌+◌, ◌*◌, List, [], length}
use mathlib.Core.Option.{some}
use lib.ListN.{get_elem?}
use Rattle.atomic_table.specs.Seated.{TableId}
use Rattle.cable_ring.specs.declared.view.RingSpec.{RingSpec}
use Rattle.cable_ring.specs.declared.view.Plan.{Plan}
use Rattle.cable_ring.specs.Passes.{PassView}

-- the plan of a cable with these rings
abbrev pub plan_with : ℕ → ℕ → ℕ → List RingSpec → Plan
plan_with first cells actors rings = record { first = first; cells = cells; actors = actors; rings = rings }

-- a table has the words and the cells of a plan
pub record IsTableOf (table : TableId) (plan : Plan) : Type 0 where
  pub words : table.words ≡ 16 * length plan.rings + 16
  pub slots : table.slots ≡ length plan.rings * plan.cells

-- the token of an actor that has done nothing
abbrev pub new_pass : {M : Type 0} → TableId → Plan → ℕ → PassView M
new_pass table plan actor = record { table = table; actor = actor; plan = plan; events = [] }

-- these are the tokens of so many actors, in order
pub record AreOpened {M : Type 0} (table : TableId) (plan : Plan) (count : ℕ) (passes : List (PassView M)) : Type 0 where
  pub all : length passes ≡ count
  pub each : (actor : ℕ) (pass : PassView M) → get_elem? passes actor ≡ some pass → pass ≡ new_pass table plan actor
