-- What events ask of the level (LV2 patch: patch:Set and patch:Get; LV2 atom: Sequence).
use Rattle.std.specs.Prelude.{◌≡◌, ℕ, ◌==◌, if◌then◌else◌, List, [], ◌∷◌, Option, Some, None, Result, Ok, Err, ℤ, FitsSigned}
use Rattle.std.specs.Int.{w64}
use Rattle.lv_base.specs.declared.number.Fixed.{Fixed}
use Rattle.atom_core.specs.Value.{bare, keyed, timed, Value, Parts, none, part}
use Rattle.atom_core.specs.Fits.{Fits}
use Rattle.atom_core.specs.Answer.{most_containers}
use Rattle.atom_core.specs.Readers.{fixed_of}
use Rattle.atom_value.specs.Reading.{events_in}
use Rattle.patch_control.specs.declared.message.PatchFault.{PatchFault}
use Rattle.patch_control.specs.Message.{Content, get, set, put, other, message_of}
use Rattle.stock_tank.specs.declared.ask.Ask.{Ask}
use Rattle.stock_tank.specs.declared.ask.Ask.TheVariants.{Set, Get, Nothing}
use Rattle.stock_tank.specs.declared.ask.Wanted.TheVariants.{Level, All}

-- the time of an event, and what it asks
abbrev pub Request : Type 0
Request = ℤ × Ask

-- a Get asks for the property with this key, or for all where it names none
abbrev pub asked : ℕ → ℕ → Ask
asked key property = if property == key then Get Level else if property == 0 then Get All else Nothing

-- a Set counts where its value is a Fixed
abbrev pub set_to : Option Fixed → Ask
set_to (Some level) = Set level
set_to None = Nothing

-- what a message asks
abbrev pub says_message : ℕ → Content → Ask
says_message key (get property subject) = asked key property
says_message key (set property subject value) = if property == key then set_to (fixed_of value) else Nothing
says_message key (put subject body) = Nothing
says_message key other = Nothing

-- an atom that is no message is ignored
abbrev pub says : ℕ → Result Content PatchFault → Ask
says key (Ok content) = says_message key content
says key (Err fault) = Nothing

unfoldable pub ask_of : ℕ → Value → Ask
ask_of key value = says key (message_of value)

-- what the events of a sequence ask, in order
abbrev pub requests_of : ℕ → Parts → List Request
requests_of key none = []
requests_of key (part (timed time) value parts) = (time, ask_of key value) ∷ requests_of key parts
requests_of key (part bare value parts) = requests_of key parts
requests_of key (part (keyed k context) value parts) = requests_of key parts

-- what the events ask that bytes spell
unfoldable pub requests_in : ℕ → List ℕ → List Request
requests_in key bytes = requests_of key (events_in bytes)

-- the value of a Set is within the limits
abbrev pub HasValue : Content → Type 0
HasValue (set property subject value) = Fits most_containers value
HasValue (get property subject) = Unit {0}
HasValue (put subject body) = Unit {0}
HasValue other = Unit {0}

-- one call of an iterator over requests gives the first of them, and leaves the others
abbrev pub Next : List Request → Option Request → List Request → Type 0
Next before None after = before ≡ []
Next before (Some request) after = (before ≡ request ∷ after) × FitsSigned w64 request.0
