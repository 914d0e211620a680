-- What goes on whatever a command does: what is known stays known, what was taken stays taken, and no count falls.
use Rattle.std.specs.Prelude.{◌≡◌, ℕ, ◌≤◌, IsTrue, List, ◌++◌}
use Rattle.lv_outside.specs.World.{VaultState, SinkState}

-- a vault some calls later
pub record VaultGoesOn (before after : VaultState) : Type 0 where
  pub told : IsTrue before.tells → IsTrue after.tells
  pub faults : before.faults ≤ after.faults
  pub absences : before.absences ≤ after.absences
  pub longs : before.longs ≤ after.longs

-- a sink some calls later: what it had taken stands before all that it took since
pub record SinkGoesOn (before after : SinkState) : Type 0 where
  pub told : IsTrue before.tells → IsTrue after.tells
  pub taken : IsTrue before.tells → (more : List ℕ) × (after.taken ≡ before.taken ++ more)
  pub faults : before.faults ≤ after.faults
