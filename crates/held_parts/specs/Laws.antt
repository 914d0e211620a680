-- What calls change of the parts that are known.
use Rattle.std.specs.Prelude.{ℕ, ◌==◌, List, Option, None}
use Rattle.graph_order.specs.declared.setup.Setup.{Setup}
use Rattle.session_play.specs.Looking.{newer, if_so}
use Rattle.held_parts.specs.declared.place.Place.{Place}
use Rattle.held_parts.specs.Places.{ShowParts, ShowOthers}

-- the parts that are known once a call on an instance gave this part, if it gave one
abbrev pub known_with : {X : Type 0} → ℕ → Option X → (ℕ → Option X) → ℕ → Option X
known_with inst gave known other = newer (if_so (inst == other) gave) (known other)

-- a call on an instance that is away changes none of the others
abbrev pub CallChangesOne : Type 0 → Type 0 → Type 0 → Type 0
CallChangesOne C F B = (setup : Setup) (inst : ℕ) (fronts : ℕ → Option F) (backs : ℕ → Option B) (front : Option F) (back : Option B) (places : List (Place C F B))
    → ShowOthers setup inst fronts backs places → ShowOthers setup inst (known_with inst front fronts) (known_with inst back backs) places

-- a call that gives no part changes none
abbrev pub CallChangesNone : Type 0 → Type 0 → Type 0 → Type 0
CallChangesNone C F B = (setup : Setup) (inst : ℕ) (fronts : ℕ → Option F) (backs : ℕ → Option B) (places : List (Place C F B))
    → ShowParts setup fronts backs places → ShowParts setup (known_with inst None fronts) (known_with inst None backs) places
