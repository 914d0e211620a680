-- A token stays one of its end.
use Rattle.std.proofs.Common.{◌≡◌, ℕ, suc, ◌+◌, List, [], ◌∷◌, ◌++◌, length, refl, sym, ap, subst, ◌∙◌, length-append, arith}
use Rattle.atomic_table.specs.Seated.{TableId}
use Rattle.atomic_table.proofs.Lists.{at_last, at_longer}
use Rattle.cable_trace.specs.declared.trace.Action.{Action}
use Rattle.cable_ring.specs.declared.view.Plan.{Plan}
use Rattle.cable_ring.specs.Passes.{PassView, noted, sender_at, taker_at}
use Rattle.cable_ring.specs.Opened.{plan_with, new_pass, AreOpened}
use Rattle.message_count.specs.Wired.{IsWired}

module _ {M : Type 0} where
  -- the last of opened tokens, and the others
  pub opened_last : (table : TableId) (plan : Plan) (n : ℕ) (passes : List (PassView M)) (pass : PassView M) → AreOpened table plan (n + 1) (passes ++ pass ∷ [])
      → (pass ≡ new_pass table plan n) × AreOpened table plan n passes
  opened_last table plan n passes pass h =
      let total : length (passes ++ pass ∷ []) ≡ length passes + 1 = length-append passes (pass ∷ []) in
      let long : length passes ≡ n = omega (arith, h.all) in
      (h.each n pass (at_last passes pass n long), record { all = long; each = λ actor p e. h.each actor p (at_longer passes (pass ∷ []) actor p e) })

  pub wired_new : (table : TableId) (actor : ℕ) (pass : PassView M) → pass ≡ new_pass table (plan_with 0 64 2 (record { from = 0; to = 1 } ∷ [])) actor → IsWired table actor pass
  wired_new table actor pass is = subst (λ (p : PassView M). IsWired table actor p) (sym is) (record { table_is = refl; plan_is = refl; actor_is = refl })

  pub wired_noted : (table : TableId) (actor ticket : ℕ) (action : Action M) (pass now : PassView M) → now ≡ noted pass ticket action → IsWired table actor pass → IsWired table actor now
  wired_noted table actor ticket action pass now is h = subst (λ (p : PassView M). IsWired table actor p) (sym is) (record { table_is = h.table_is; plan_is = h.plan_is; actor_is = h.actor_is })

  pub wired_same : (table : TableId) (actor : ℕ) (pass now : PassView M) → now ≡ pass → IsWired table actor pass → IsWired table actor now
  wired_same table actor pass now is h = subst (λ (p : PassView M). IsWired table actor p) (sym is) h

  pub wired_sends : (table : TableId) (pass : PassView M) → IsWired table 0 pass → sender_at pass.plan.rings 0 ≡ suc pass.actor
  wired_sends table pass h = ap (λ (q : Plan). sender_at q.rings 0) h.plan_is ∙ ap suc (sym h.actor_is)

  pub wired_takes : (table : TableId) (pass : PassView M) → IsWired table 1 pass → taker_at pass.plan.rings 0 ≡ suc pass.actor
  wired_takes table pass h = ap (λ (q : Plan). taker_at q.rings 0) h.plan_is ∙ ap suc (sym h.actor_is)
