-- A session keeps the limits that the order of work relies on.
use Rattle.std.proofs.Common.{◌≡◌, ℕ, zero, suc, ◌<◌, ◌≤◌, List, [], ◌∷◌, All, Some, length, subst, arith}
use Rattle.std.specs.List.{slice_get}
use Rattle.std.specs.Option.{option_map_or}
use Rattle.std.proofs.lemmas.List.Elements.{All-head, All-tail}
use Rattle.std.proofs.lemmas.Option.{none-some, same_Some}
use Rattle.record_law.specs.declared.shape.Shape.{Shape}
use Rattle.record_law.specs.declared.shape.ShapeAction.{ShapeAction}
use Rattle.record_law.specs.declared.shape.ShapeInst.{ShapeInst}
use Rattle.record_terms.specs.Session.{IsSession}
use Rattle.order_base.specs.Limits.{KeepsLimits}

-- what holds of all holds at a place
at_place : {X : Type 0} (P : X → Type 0) (xs : List X) (k : ℕ) (x : X) → All P xs → slice_get xs k ≡ Some x → P x
at_place P [] k x all at = absurd (none-some x at)
at_place P (y ∷ ys) zero x all at = subst P (same_Some y x at) (All-head P y ys all)
at_place P (y ∷ ys) (suc k) x all at = at_place P ys k x (All-tail P y ys all) at

worker_few : (most : ℕ) (insts : List ShapeInst) → All (λ (it : ShapeInst). (0 < it.worker) × (it.worker ≤ most)) insts → (inst : ℕ)
    → option_map_or (λ (it : ShapeInst). it.worker) (slice_get insts inst) 0 ≤ most
worker_few most [] all inst = omega arith
worker_few most (it ∷ later) all zero = (All-head (λ (x : ShapeInst). (0 < x.worker) × (x.worker ≤ most)) it later all).1
worker_few most (it ∷ later) all (suc inst) =
    worker_few most later (All-tail (λ (x : ShapeInst). (0 < x.worker) × (x.worker ≤ most)) it later all) inst

pub session_keeps : (s : Shape) → IsSession s → KeepsLimits s
session_keeps s is = record {
  insts = is.insts;
  workers = is.workers;
  blocks = is.blocks;
  actions = is.actions;
  owners = λ inst. let few = worker_few s.workers s.insts is.owned inst in let most = is.workers in omega (arith, few, most);
  deeds = λ action it at. at_place (λ (x : ShapeAction). x.inst < length s.insts) s.actions action it is.acted at;
  plan = is.there;
}
