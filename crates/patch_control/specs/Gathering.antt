-- What was found under each key so far, and what the properties that are left add to it. No public clause rests on it.
use Rattle.std.specs.Prelude.{◌≡◌, ℕ, Bool, ◌&&◌, ◌||◌, Option, None, Some}
use Rattle.std.specs.Option.{option_or}
use Rattle.atom_core.specs.declared.view.AtomView.{AtomView}
use Rattle.atom_core.specs.Value.{Value, Parts}
use Rattle.atom_core.specs.Spelling.{atom_of}
use Rattle.patch_control.specs.declared.words.TheConstants.{PROPERTY, VALUE, SUBJECT, BODY}
use Rattle.patch_control.specs.declared.slot.Slot.{Slot}
use Rattle.patch_control.specs.declared.found.Found.{Found}
use Rattle.patch_control.specs.Properties.{first, has_key, repeats_key}
use Rattle.patch_control.specs.Message.{counted, any_value, an_object}

-- with those that are left, the key has the same as in all properties
pub record Leads {A : Type 0} (counts : Value → Option A) (key : ℕ) (all : Parts) (item : Option A) (stands again : Bool) (rest : Parts) : Type 0 where
  pub item_is : option_or item (first counts key rest) ≡ first counts key all
  pub again_is : (again || ((stands && has_key key rest) || repeats_key key rest)) ≡ repeats_key key all

-- a view of a value, or none where there is none
abbrev pub Views : Option AtomView → Option Value → Type 0
Views None None = Unit {0}
Views (Some view) (Some value) = view.bytes.now ≡ atom_of value
Views None (Some value) = ⊥
Views (Some view) None = ⊥

-- a number found under a key, or an atom
abbrev pub LeadsNumber : ℕ → Parts → Slot ℕ → Parts → Type 0
LeadsNumber key all slot rest = Leads counted key all slot.item slot.stands slot.again rest

abbrev pub LeadsAtom : (Value → Option Value) → ℕ → Parts → Slot AtomView → Parts → Type 0
LeadsAtom counts key all slot rest = (item : Option Value) × Views slot.item item × Leads counts key all item slot.stands slot.again rest

pub record Gathers (all : Parts) (found : Found) (rest : Parts) : Type 0 where
  pub property : LeadsNumber PROPERTY all found.property rest
  pub subject : LeadsNumber SUBJECT all found.subject rest
  pub value : LeadsAtom any_value VALUE all found.value rest
  pub body : LeadsAtom an_object BODY all found.body rest

abbrev pub repeats_in : Found → Bool
repeats_in found = found.property.again || (found.value.again || (found.subject.again || found.body.again))
