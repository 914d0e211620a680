-- A table of fronts, and what a step does to it.
use Rattle.std.proofs.Common.{◌≡◌, ℕ, ◌≤◌, nat_eq, false, List, ◌∷◌, length, slice_set, Option, Some, sym, ap, ◌∙◌, ⊎_elim, arith, eqb-true, ne_eqb}
use Rattle.std.specs.List.{slice_get}
use Rattle.std.proofs.lemmas.Option.{slice_get_within}
use Rattle.std.proofs.lemmas.Bool.{cases_Bool, cond-true, cond-false, eqb-false}
use Rattle.record_law.specs.Audio as law
use Rattle.record_law.specs.Message.{Step, History}
use Rattle.audio_order.specs.declared.fronts.Moved.{Moved}
use Rattle.audio_order.specs.declared.fronts.Place.{Place}
use Rattle.order_base.proofs.Lists.{get_set_same, get_set_other}
use Rattle.audio_order.specs.Fronts.{place_of, AreFronts, place_after}

module _ (places : List Place) (x : Step) where
  abbrev Moves : Option Moved → Type 0
  Moves moved = (inst : ℕ) (before : law.Place) → law.front_after inst x before ≡ place_after moved inst before

  -- the front that moves is in the table
  pub noted_inside : (moved : Moved) → Moves (Some moved) → (h : History) → AreFronts places h → AreFronts (slice_set places moved.inst moved.place) (x ∷ h)
  noted_inside moved moves h are inst place at =
      ⊎_elim
      (λ same.
      let i : moved.inst ≡ inst = eqb-true moved.inst inst same in
      let here : place ≡ moved.place = get_set_same places moved.inst moved.place place (ap (slice_get (slice_set places moved.inst moved.place)) i ∙ at) in
      ap place_of here
      ∙ sym (cond-true (nat_eq moved.inst inst) (place_of moved.place) (law.front_place inst h) same)
      ∙ sym (moves inst (law.front_place inst h)))
      (λ other.
      are inst place (sym (get_set_other places moved.inst inst moved.place (eqb-false moved.inst inst other)) ∙ at)
      ∙ sym (cond-false (nat_eq moved.inst inst) (place_of moved.place) (law.front_place inst h) other)
      ∙ sym (moves inst (law.front_place inst h)))
      (cases_Bool (nat_eq moved.inst inst))

  -- it isn't
  pub noted_outside : (moved : Moved) → Moves (Some moved) → length places ≤ moved.inst → (h : History) → AreFronts places h → AreFronts places (x ∷ h)
  noted_outside moved moves past h are inst place at =
      let other : nat_eq moved.inst inst ≡ false = ne_eqb moved.inst inst (λ same. absurd (omega (arith, same, slice_get_within places inst place at))) in
      are inst place at
      ∙ sym (cond-false (nat_eq moved.inst inst) (place_of moved.place) (law.front_place inst h) other)
      ∙ sym (moves inst (law.front_place inst h))
