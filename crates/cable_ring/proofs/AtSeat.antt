-- The same at a seat, whose view and cells are known by an equation.
use Rattle.std.proofs.Common.{◌≡◌, ℕ, suc, ◌+◌, ◌*◌, ◌%◌, List, [], ◌∷◌, Option, Some, None, sym, subst}
use mathlib.Core.Option.{none}
use Rattle.atomic_table.specs.Table.{step, Allows}
use Rattle.cable_ring.specs.declared.view.Plan.{Plan}
use Rattle.cable_ring.specs.declared.view.Acting.{Acting}
use Rattle.cable_ring.specs.declared.view.View.TheVariants.{Actor}
use Rattle.cable_ring.specs.Rule.{head_word, tail_word, IsCable}
use Rattle.cable_ring.specs.Steps.{Seated, drew, marked, took, saw_head, stored_tail, saw_tail, saw_cell, stored_head, stored_beat, saw_beat}
use Rattle.cable_ring.proofs.Allowed.{IsIdle, may_draw, may_mark, HasTaken, may_draw_for_take}
use Rattle.cable_ring.proofs.AllowedOnRings.{MaySend, may_see_head, MayStoreTail, may_store_tail, MayLook, may_see_tail, MayTake, may_see_cell, MayStoreHead, may_store_head}
use Rattle.cable_ring.proofs.AllowedAtBeat.{MayStoreBeat, may_store_beat, MaySeeBeat, may_see_beat}

module _ {M : Type 0} (plan : Plan) (slots id : ℕ) (me : Seated M) (acting : Acting M) where
  pub draw_at : me ≡ (Actor acting, []) → IsIdle plan acting → Allows (IsCable plan) slots id me 0 (λ n. (n + 1) % 18446744073709551616) (drew (step slots 0 1 0 none) me)
  draw_at e pre = subst (λ (m : Seated M). Allows (IsCable plan) slots id m 0 (λ n. (n + 1) % 18446744073709551616) (drew (step slots 0 1 0 none) m)) (sym e) (may_draw plan slots id acting [] pre)

  pub mark_at : me ≡ (Actor acting, []) → IsIdle plan acting → Allows (IsCable plan) slots id me 0 (λ n. (n + 1) % 18446744073709551616) (marked (step slots 0 1 0 none) me)
  mark_at e pre = subst (λ (m : Seated M). Allows (IsCable plan) slots id m 0 (λ n. (n + 1) % 18446744073709551616) (marked (step slots 0 1 0 none) m)) (sym e) (may_mark plan slots id acting [] pre)

  pub draw_for_take_at : (ring : ℕ) (message : M) (c : List (ℕ × Option M)) → me ≡ (Actor acting, c) → HasTaken plan ring message acting
      → Allows (IsCable plan) slots id me 0 (λ n. (n + 1) % 18446744073709551616) (took (step slots 0 1 0 none) me)
  draw_for_take_at ring message c e pre =
      subst (λ (m : Seated M). Allows (IsCable plan) slots id m 0 (λ n. (n + 1) % 18446744073709551616) (took (step slots 0 1 0 none) m)) (sym e) (may_draw_for_take plan slots id ring message acting c pre)

  module _ (ring word : ℕ) where
    pub see_head_at : (ticket : ℕ) → word ≡ head_word ring → me ≡ (Actor acting, []) → MaySend plan slots id ring ticket acting
        → Allows (IsCable plan) slots id me word (λ n. n) (saw_head (step slots word 0 0 none) me)
    see_head_at ticket w e pre = subst (λ (k : ℕ). Allows (IsCable plan) slots id me k (λ n. n) (saw_head (step slots k 0 0 none) me)) (sym w)
        (subst (λ (m : Seated M). Allows (IsCable plan) slots id m (head_word ring) (λ n. n) (saw_head (step slots (head_word ring) 0 0 none) m)) (sym e) (may_see_head plan slots id ring ticket acting pre))

    pub store_tail_at : (ticket seen : ℕ) (message : M) (value : ℕ) (c : List (ℕ × Option M)) → word ≡ tail_word ring → me ≡ (Actor acting, c)
        → MayStoreTail plan slots id ring ticket seen message value c acting → Allows (IsCable plan) slots id me word (λ _. value) (λ _. stored_tail (step slots word value 0 none) me value)
    store_tail_at ticket seen message value c w e pre = subst (λ (k : ℕ). Allows (IsCable plan) slots id me k (λ _. value) (λ _. stored_tail (step slots k value 0 none) me value)) (sym w)
        (subst (λ (m : Seated M). Allows (IsCable plan) slots id m (tail_word ring) (λ _. value) (λ _. stored_tail (step slots (tail_word ring) value 0 none) m value)) (sym e)
        (may_store_tail plan slots id ring ticket seen message value acting c pre))

    pub see_tail_at : (ticket : ℕ) → word ≡ tail_word ring → me ≡ (Actor acting, []) → MayLook plan slots id ring ticket acting
        → Allows (IsCable plan) slots id me word (λ n. n) (saw_tail (step slots word 0 0 none) me)
    see_tail_at ticket w e pre = subst (λ (k : ℕ). Allows (IsCable plan) slots id me k (λ n. n) (saw_tail (step slots k 0 0 none) me)) (sym w)
        (subst (λ (m : Seated M). Allows (IsCable plan) slots id m (tail_word ring) (λ n. n) (saw_tail (step slots (tail_word ring) 0 0 none) m)) (sym e) (may_see_tail plan slots id ring ticket acting [] pre))

    pub see_cell_at : word ≡ head_word ring → me ≡ (Actor acting, []) → MayTake plan slots id ring acting
        → Allows (IsCable plan) slots id me word (λ n. n) (saw_cell (step slots word 0 0 none) me)
    see_cell_at w e pre = subst (λ (k : ℕ). Allows (IsCable plan) slots id me k (λ n. n) (saw_cell (step slots k 0 0 none) me)) (sym w)
        (subst (λ (m : Seated M). Allows (IsCable plan) slots id m (head_word ring) (λ n. n) (saw_cell (step slots (head_word ring) 0 0 none) m)) (sym e) (may_see_cell plan slots id ring acting pre))

    pub store_head_at : (message : M) (value : ℕ) (c : List (ℕ × Option M)) → word ≡ head_word ring → me ≡ (Actor acting, c) → MayStoreHead plan slots id ring message value c acting
        → Allows (IsCable plan) slots id me word (λ _. value) (λ _. stored_head (step slots word value 0 none) me value)
    store_head_at message value c w e pre = subst (λ (k : ℕ). Allows (IsCable plan) slots id me k (λ _. value) (λ _. stored_head (step slots k value 0 none) me value)) (sym w)
        (subst (λ (m : Seated M). Allows (IsCable plan) slots id m (head_word ring) (λ _. value) (λ _. stored_head (step slots (head_word ring) value 0 none) m value)) (sym e)
        (may_store_head plan slots id ring message value acting c pre))

  -- the beat
  pub store_beat_at : (ticket number : ℕ) → me ≡ (Actor acting, []) → MayStoreBeat plan slots id ticket number acting
      → Allows (IsCable plan) slots id me 8 (λ _. number) (λ _. stored_beat (step slots 8 number 0 none) me number)
  store_beat_at ticket number e pre = subst (λ (m : Seated M). Allows (IsCable plan) slots id m 8 (λ _. number) (λ _. stored_beat (step slots 8 number 0 none) m number)) (sym e)
      (may_store_beat plan slots id ticket number acting [] pre)

  pub see_beat_at : (ticket : ℕ) → me ≡ (Actor acting, []) → MaySeeBeat plan slots id ticket acting
      → Allows (IsCable plan) slots id me 8 (λ n. n) (saw_beat (step slots 8 0 0 none) me)
  see_beat_at ticket e pre = subst (λ (m : Seated M). Allows (IsCable plan) slots id m 8 (λ n. n) (saw_beat (step slots 8 0 0 none) m)) (sym e) (may_see_beat plan slots id ticket acting [] pre)
