-- The shape of a setup that is ready is a session's.
use Rattle.std.proofs.Common.{◌≡◌, ℕ, suc, ◌<◌, ◌≤◌, All, IfSome, List, [], ◌∷◌, length, map, Option, Some, None, refl, sym, ap, subst, ◌∙◌, arith, slice_index}
use Rattle.std.proofs.lemmas.List.{length-map, get_or_default}
use Rattle.std.proofs.lemmas.List.Elements.{All-nil, All-cons, All-head, All-tail, All-from_get_or}
use Rattle.graph_order.specs.declared.setup.Setup.{Setup}
use Rattle.graph_order.specs.Plans.{IsPlacing}
use Rattle.graph_order.specs.Setup.{IsReady}
use Rattle.record_law.specs.declared.shape.ShapeAction.{ShapeAction}
use Rattle.record_law.specs.declared.shape.ShapeInst.{ShapeInst}
use Rattle.record_terms.specs.Session.{IsSession}
use Rattle.session_play.specs.SessionShape.{shape_of, inst_from, insts_from, action_from, worker_for}
use Rattle.session_script.specs.declared.session.Action.{Action}
use Rattle.session_script.specs.declared.session.Inst.{Inst}
use Rattle.session_script.specs.Valid.{IsBetween, IsInstValid, IsActionValid}

count_insts : (setup : Setup) (from : ℕ) (insts : List Inst) → length (insts_from setup from insts) ≡ length insts
count_insts setup from [] = refl
count_insts setup from (it ∷ later) = ap suc (count_insts setup (suc from) later)

-- ---- each instance belongs to a worker

worker_there : (setup : Setup) (inst : ℕ) (named : Option ℕ) → 1 ≤ setup.session.workers → IfSome named (IsBetween 1 setup.session.workers)
    → (0 < worker_for setup inst named) × (worker_for setup inst named ≤ setup.session.workers)
worker_there setup inst None some named = (omega arith, omega (some, arith))
worker_there setup inst (Some worker) some named = (omega (named.0, arith), named.1)

owned_from : (setup : Setup) (from : ℕ) (insts : List Inst) → 1 ≤ setup.session.workers → All (IsInstValid setup.session.workers) insts
    → All (λ (it : ShapeInst). (0 < it.worker) × (it.worker ≤ setup.session.workers)) (insts_from setup from insts)
owned_from setup from [] some valid = All-nil (λ (it : ShapeInst). (0 < it.worker) × (it.worker ≤ setup.session.workers))
owned_from setup from (it ∷ later) some valid =
    All-cons (λ (it : ShapeInst). (0 < it.worker) × (it.worker ≤ setup.session.workers)) (inst_from setup from it) (insts_from setup (suc from) later)
    (worker_there setup from it.worker some (All-head (IsInstValid setup.session.workers) it later valid).worker)
    (owned_from setup (suc from) later some (All-tail (IsInstValid setup.session.workers) it later valid))

-- ---- each action is on an instance

acted_on : (setup : Setup) (count insts blocks : ℕ) (actions : List Action) → insts ≡ count → All (IsActionValid insts blocks) actions
    → All (λ (it : ShapeAction). it.inst < count) (map (action_from setup) actions)
acted_on setup count insts blocks [] same valid = All-nil (λ (it : ShapeAction). it.inst < count)
acted_on setup count insts blocks (it ∷ later) same valid =
    All-cons (λ (it : ShapeAction). it.inst < count) (action_from setup it) (map (action_from setup) later)
    (subst (λ n. it.inst < n) same (All-head (IsActionValid insts blocks) it later valid).inst)
    (acted_on setup count insts blocks later same (All-tail (IsActionValid insts blocks) it later valid))

pub is_session : (setup : Setup) → IsReady setup → IsSession (shape_of setup)
is_session setup ready =
    let session = ready.session in
    let count : length (insts_from setup 0 setup.session.insts) ≡ length setup.session.insts = count_insts setup 0 setup.session.insts in
    let placing : IsPlacing (length setup.session.insts) setup.plan = ready.plan.plan.placing in
    let orders : length setup.plan.order ≡ length setup.session.insts = placing.orders in
    record {
      insts = subst (λ n. n ≤ 32) (sym count) session.few_insts;
      workers = session.workers.1;
      cells = (omega (session.cells.0, arith), session.cells.1);
      blocks = session.blocks;
      actions = subst (λ n. n ≤ 1024) (sym (length-map setup.session.actions (action_from setup))) session.few_actions;
      owned = owned_from setup 0 setup.session.insts session.workers.0 session.insts;
      acted =
          acted_on setup (length (insts_from setup 0 setup.session.insts)) (length setup.session.insts) setup.session.blocks setup.session.actions (sym count)
          session.actions;
      planned = orders ∙ sym count;
      there =
          All-from_get_or (λ inst. inst < length (insts_from setup 0 setup.session.insts)) setup.plan.order 0
          (λ k within. subst (λ n. slice_index setup.plan.order k < n) (sym count) (placing.placed k (subst (λ n. k < n) orders within)).0);
      each =
          λ inst within.
          let here = placing.ordered inst (subst (λ n. inst < n) count within) in
          let place = slice_index setup.plan.place inst in
          let at : place < length setup.plan.order = subst (λ n. place < n) (sym orders) here.0 in
          (place, at, get_or_default setup.plan.order place inst 0 at ∙ here.1);
    }
