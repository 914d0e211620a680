-- A token stays one that a test may use.
use Rattle.std.proofs.Common.{◌≡◌, ℕ, zero, suc, ◌+◌, List, [], ◌∷◌, ◌++◌, length, refl, sym, ap, subst, ◌∙◌, length-append, arith}
use Rattle.atomic_table.specs.Seated.{TableId}
use Rattle.atomic_table.proofs.Lists.{at_last, at_longer}
use Rattle.cable_trace.specs.declared.trace.Action.{Action}
use Rattle.cable_ring.specs.declared.view.Plan.{Plan}
use Rattle.cable_ring.specs.Passes.{PassView, noted, sender_at, taker_at}
use mathlib.Core.Option.{some, some-injective, some-ne-none}
use lib.ListN.{get_elem?}
use Rattle.cable_ring.specs.Opened.{plan_with, new_pass, AreOpened}
use Rattle.cable_ring.specs.Closed.{AreAllPasses}
use Rattle.cable_tests.specs.Ready.{one_ring, IsReady}

-- the last of opened tokens, and the others
pub opened_last : (table : TableId) (plan : Plan) (n : ℕ) (passes : List (PassView ℕ)) (pass : PassView ℕ) → AreOpened table plan (n + 1) (passes ++ pass ∷ [])
    → (pass ≡ new_pass table plan n) × AreOpened table plan n passes
opened_last table plan n passes pass h =
    let total : length (passes ++ pass ∷ []) ≡ length passes + 1 = length-append passes (pass ∷ []) in
    let long : length passes ≡ n = omega (arith, h.all) in
    (h.each n pass (at_last passes pass n long), record { all = long; each = λ actor p e. h.each actor p (at_longer passes (pass ∷ []) actor p e) })

pub ready_new : (table : TableId) (actor : ℕ) (pass : PassView ℕ) → pass ≡ new_pass table (plan_with 0 1 2 (record { from = 0; to = 1 } ∷ [])) actor → IsReady table actor 0 pass
ready_new table actor pass is = subst (λ (p : PassView ℕ). IsReady table actor 0 p) (sym is) (record { table_is = refl; plan_is = refl; actor_is = refl; few = omega arith })

pub ready_noted : (table : TableId) (actor most ticket : ℕ) (action : Action ℕ) (pass now : PassView ℕ) → now ≡ noted pass ticket action → IsReady table actor most pass → IsReady table actor (most + 1) now
ready_noted table actor most ticket action pass now is h = subst (λ (p : PassView ℕ). IsReady table actor (most + 1) p) (sym is) (record {
  table_is = h.table_is;
  plan_is = h.plan_is;
  actor_is = h.actor_is;
  few = omega (arith, h.few, length-append pass.events (record { ticket = ticket; action = action } ∷ []));
})

pub ready_same : (table : TableId) (actor most : ℕ) (pass now : PassView ℕ) → now ≡ pass → IsReady table actor most pass → IsReady table actor (most + 1) now
ready_same table actor most pass now is h = subst (λ (p : PassView ℕ). IsReady table actor (most + 1) p) (sym is) (record { table_is = h.table_is; plan_is = h.plan_is; actor_is = h.actor_is; few = omega (arith, h.few) })

pub ready_sends : (table : TableId) (most : ℕ) (pass : PassView ℕ) → IsReady table 0 most pass → sender_at pass.plan.rings 0 ≡ suc pass.actor
ready_sends table most pass h = ap (λ (q : Plan). sender_at q.rings 0) h.plan_is ∙ ap suc (sym h.actor_is)

pub ready_takes : (table : TableId) (most : ℕ) (pass : PassView ℕ) → IsReady table 1 most pass → taker_at pass.plan.rings 0 ≡ suc pass.actor
ready_takes table most pass h = ap (λ (q : Plan). taker_at q.rings 0) h.plan_is ∙ ap suc (sym h.actor_is)

-- the tokens of both actors are all
pub all_two : (table : TableId) (plan : Plan) (sender taker : PassView ℕ) → plan ≡ one_ring → (sender.table ≡ table) × (sender.actor ≡ 0) × (taker.table ≡ table) × (taker.actor ≡ 1)
    → AreAllPasses table plan (sender ∷ taker ∷ [])
all_two table plan sender taker is ends = record { all = sym (ap (λ (q : Plan). q.actors) is); each = at }
  where
    at : (actor : ℕ) (pass : PassView ℕ) → get_elem? (sender ∷ taker ∷ []) actor ≡ some pass → (pass.table ≡ table) × (pass.actor ≡ actor)
    at zero pass e = subst (λ (p : PassView ℕ). (p.table ≡ table) × (p.actor ≡ 0)) (some-injective sender pass e) (ends.0, ends.1)
    at (suc zero) pass e = subst (λ (p : PassView ℕ). (p.table ≡ table) × (p.actor ≡ 1)) (some-injective taker pass e) (ends.2, ends.3)
    at (suc (suc actor)) pass e = absurd (some-ne-none pass (sym e))
