-- The limits of a session that the order of work relies on.
use Rattle.std.specs.Prelude.{◌≡◌, ℕ, ◌<◌, ◌≤◌, length, All, slice_get, Some}
use Rattle.record_law.specs.declared.shape.Shape.{Shape}
use Rattle.record_law.specs.declared.shape.ShapeAction.{ShapeAction}
use Rattle.record_law.specs.Shape.{worker_of}

-- at most 32 instances, 8 workers, 65,536 blocks and 1,024 actions; each instance belongs to such a worker; the plan runs instances that
-- are there, and actions name such
pub record KeepsLimits (s : Shape) : Type 0 where
  pub insts : length s.insts ≤ 32
  pub workers : s.workers ≤ 8
  pub blocks : s.blocks ≤ 65536
  pub actions : length s.actions ≤ 1024
  pub owners : (inst : ℕ) → worker_of s inst ≤ 8
  pub deeds : (action : ℕ) (it : ShapeAction) → slice_get s.actions action ≡ Some it → it.inst < length s.insts
  pub plan : All (λ inst. inst < length s.insts) s.plan
