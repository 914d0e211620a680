-- Where the instances of a run stand, and the parts that are known of them.
use Rattle.std.specs.Prelude.{◌≡◌, ℕ, ◌==◌, false, List, length, slice_get, Option, Some}
use Rattle.graph_order.specs.declared.setup.Setup.{Setup}
use Rattle.instance_class.specs.Parts.{Whole, FrontPart, BackPart}
use Rattle.session_play.specs.Setup.{ports_of}
use Rattle.held_parts.specs.declared.place.Place.{Place}
use Rattle.held_parts.specs.declared.place.Place.TheVariants.{Away, Inactive, Active}

-- an instance stands here with its number and its declared ports, and its parts are those that are known
pub record IsWhole {F B : Type 0} (setup : Setup) (inst : ℕ) (front : Option F) (back : Option B) (it : Whole F B) : Type 0 where
  pub number : it.inst ≡ inst
  pub ports : it.ports ≡ ports_of setup inst
  pub is_front : front ≡ Some it.front
  pub is_back : back ≡ Some it.back

pub record AreParts {F B : Type 0} (setup : Setup) (inst : ℕ) (front : Option F) (back : Option B) (its_front : FrontPart F) (its_back : BackPart B) : Type 0 where
  pub number : its_front.inst ≡ inst
  pub same : its_back.inst ≡ inst
  pub ports : its_front.ports ≡ ports_of setup inst
  pub is_front : front ≡ Some its_front.part
  pub is_back : back ≡ Some its_back.part

abbrev pub IsPlace : {C F B : Type 0} → Setup → ℕ → Option F → Option B → Place C F B → Type 0
IsPlace setup inst front back Away = Unit {0}
IsPlace setup inst front back (Inactive it) = IsWhole setup inst front back it
IsPlace setup inst front back (Active its_front its_back) = AreParts setup inst front back its_front its_back

-- the places of all instances show the parts that are known
pub record ShowParts {C F B : Type 0} (setup : Setup) (fronts : ℕ → Option F) (backs : ℕ → Option B) (places : List (Place C F B)) : Type 0 where
  pub all : length places ≡ length setup.decls
  pub each : (inst : ℕ) (place : Place C F B) → slice_get places inst ≡ Some place → IsPlace setup inst (fronts inst) (backs inst) place

-- those of all instances but one
pub record ShowOthers {C F B : Type 0} (setup : Setup) (but : ℕ) (fronts : ℕ → Option F) (backs : ℕ → Option B) (places : List (Place C F B)) : Type 0 where
  pub all : length places ≡ length setup.decls
  pub each : (inst : ℕ) (place : Place C F B) → (inst == but) ≡ false → slice_get places inst ≡ Some place → IsPlace setup inst (fronts inst) (backs inst) place
