-- The sessions whose records are judged: their numbers keep the limits, and what names a worker or an instance names one that is there.
use Rattle.std.specs.Prelude.{ℕ, ◌≡◌, ◌<◌, ◌≤◌, length, All, Contains}
use Rattle.record_law.specs.declared.shape.Shape.{Shape}
use Rattle.record_law.specs.declared.shape.ShapeAction.{ShapeAction}
use Rattle.record_law.specs.declared.shape.ShapeInst.{ShapeInst}

pub record IsSession (s : Shape) : Type 0 where
  pub insts : length s.insts ≤ 32
  pub workers : s.workers ≤ 8
  pub cells : (0 < s.cells) × (s.cells ≤ 64)
  pub blocks : s.blocks ≤ 65536
  pub actions : length s.actions ≤ 1024
  -- each instance belongs to a worker
  pub owned : All (λ (it : ShapeInst). (0 < it.worker) × (it.worker ≤ s.workers)) s.insts
  -- each action is on an instance
  pub acted : All (λ (it : ShapeAction). it.inst < length s.insts) s.actions
  -- the plan has each instance once
  pub planned : length s.plan ≡ length s.insts
  pub there : All (λ inst. inst < length s.insts) s.plan
  pub each : (inst : ℕ) → inst < length s.insts → Contains s.plan inst
