-- Places where nobody stands.
use Rattle.std.proofs.Common.{◌≡◌, ℕ, zero, suc, List, [], ◌∷◌, ◌++◌, slice_get, Option, Some, sym, ap, subst}
use Rattle.std.specs.Prelude.{unwrap_or}
use Rattle.std.proofs.lemmas.Option.{none-some}
use Rattle.graph_order.specs.declared.setup.Setup.{Setup}
use Rattle.held_parts.specs.declared.place.Place.{Place}
use Rattle.held_parts.specs.declared.place.Place.TheVariants.{Away}
use Rattle.held_parts.specs.Places.{IsPlace}

-- nobody stands anywhere
abbrev pub AreAway : {C F B : Type 0} → List (Place C F B) → Type 0
AreAway {C} {F} {B} places = (inst : ℕ) (place : Place C F B) → slice_get places inst ≡ Some place → place ≡ Away

pub none_away : {C F B : Type 0} → AreAway {C = C} {F = F} {B = B} []
none_away inst place got = absurd (none-some place got)

pub one_more_away : {C F B : Type 0} → (places : List (Place C F B)) → AreAway places → AreAway (places ++ Away ∷ [])
one_more_away [] away zero place got = sym (ap (λ o. unwrap_or o place) got)
one_more_away [] away (suc inst) place got = absurd (none-some place got)
one_more_away (there ∷ places) away zero place got = away 0 place got
one_more_away (there ∷ places) away (suc inst) place got = one_more_away places (λ i. away (suc i)) inst place got

pub away_anyhow : {C F B : Type 0} → (setup : Setup) (inst : ℕ) (front : Option F) (back : Option B) (place : Place C F B) → place ≡ Away → IsPlace setup inst front back place
away_anyhow setup inst front back place is = subst (IsPlace setup inst front back) (sym is) tt
