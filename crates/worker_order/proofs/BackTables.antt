-- A table of backs, and what a step does to it.
use Rattle.std.proofs.Common.{◌≡◌, ℕ, ◌≤◌, nat_eq, Bool, List, ◌∷◌, length, slice_set, Option, Some, sym, ap, ◌∙◌, ⊎_elim, arith, eqb-true, ne_eqb}
use Rattle.std.specs.List.{slice_get}
use Rattle.std.proofs.lemmas.Option.{slice_get_within}
use Rattle.std.proofs.lemmas.Bool.{cases_Bool, cond-true, cond-false, eqb-false}
use Rattle.record_law.specs.Message.{Step, History}
use Rattle.record_law.specs.Worker as law
use Rattle.worker_order.specs.declared.backs.MovedBack.{MovedBack}
use Rattle.worker_order.specs.Backs.{AreBacks, back_after}
use Rattle.order_base.proofs.Lists.{get_set_same, get_set_other}

module _ (worker : ℕ) (backs : List Bool) (x : Step) where
  abbrev Moves : Option MovedBack → Type 0
  Moves moved = (inst : ℕ) (before : Bool) → law.back_after worker inst x before ≡ back_after moved inst before

  -- the back that moves is in the table
  pub noted_inside : (moved : MovedBack) → Moves (Some moved) → (h : History) → AreBacks worker backs h → AreBacks worker (slice_set backs moved.inst moved.here) (x ∷ h)
  noted_inside moved moves h are inst here at =
      ⊎_elim
      (λ same.
      let i : moved.inst ≡ inst = eqb-true moved.inst inst same in
      get_set_same backs moved.inst moved.here here (ap (slice_get (slice_set backs moved.inst moved.here)) i ∙ at)
      ∙ sym (cond-true (nat_eq moved.inst inst) moved.here (law.has_back worker inst h) same)
      ∙ sym (moves inst (law.has_back worker inst h)))
      (λ other.
      are inst here (sym (get_set_other backs moved.inst inst moved.here (eqb-false moved.inst inst other)) ∙ at)
      ∙ sym (cond-false (nat_eq moved.inst inst) moved.here (law.has_back worker inst h) other)
      ∙ sym (moves inst (law.has_back worker inst h)))
      (cases_Bool (nat_eq moved.inst inst))

  -- it isn't
  pub noted_outside : (moved : MovedBack) → Moves (Some moved) → length backs ≤ moved.inst → (h : History) → AreBacks worker backs h → AreBacks worker backs (x ∷ h)
  noted_outside moved moves past h are inst here at =
      let other = ne_eqb moved.inst inst (λ same. absurd (omega (arith, same, slice_get_within backs inst here at))) in
      are inst here at
      ∙ sym (cond-false (nat_eq moved.inst inst) moved.here (law.has_back worker inst h) other)
      ∙ sym (moves inst (law.has_back worker inst h))
