-- Calls change the parts of their own instance at most.
use Rattle.std.proofs.Common.{◌≡◌, ℕ, ◌==◌, Bool, true, false, Option, None, refl, sym, ap, subst₂, eqb-true}
use Rattle.std.proofs.lemmas.Bool.{eqb-false}
use Rattle.session_play.specs.Looking.{newer, if_so}
use Rattle.held_parts.specs.Laws.{known_with, CallChangesOne, CallChangesNone}
use Rattle.held_parts.specs.Places.{IsPlace}

decided : (b : Bool) → (b ≡ true → ⊥) → b ≡ false
decided true never = absurd (never refl)
decided false never = refl

-- the known part of another instance stays
other_stays : {X : Type 0} → (inst other : ℕ) (gave : Option X) (known : ℕ → Option X) → (inst == other) ≡ false → known_with inst gave known other ≡ known other
other_stays inst other gave known differs = ap (λ b. newer (if_so b gave) (known other)) differs

none_given : {X : Type 0} → (b : Bool) (known : Option X) → newer (if_so b None) known ≡ known
none_given true known = refl
none_given false known = refl

turned : (inst other : ℕ) → (other == inst) ≡ false → (inst == other) ≡ false
turned inst other differs =
    decided (inst == other) (λ same. eqb-false other inst differs (sym (eqb-true inst other same)))

pub call_changes_one : {C F B : Type 0} → CallChangesOne C F B
call_changes_one setup inst fronts backs front back places show = record {
  all = show.all;
  each = λ other place apart got.
      let differs = turned inst other apart in
      subst₂ (λ f b. IsPlace setup other f b place) (sym (other_stays inst other front fronts differs)) (sym (other_stays inst other back backs differs))
      (show.each other place apart got);
}

pub call_changes_none : {C F B : Type 0} → CallChangesNone C F B
call_changes_none setup inst fronts backs places show = record {
  all = show.all;
  each = λ other place got.
      subst₂ (λ f b. IsPlace setup other f b place) (sym (none_given (inst == other) (fronts other))) (sym (none_given (inst == other) (backs other)))
      (show.each other place got);
}
