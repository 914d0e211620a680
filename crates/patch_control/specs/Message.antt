-- What an atom says as a message (LV2 patch: patch:Get, patch:Set and patch:Put), whatever the order of its properties.
use Rattle.std.specs.Prelude.{◌≡◌, ℕ, zero, suc, ◌==◌, if◌then◌else◌, Bool, ◌||◌, Option, None, Some, Result, Ok, Err}
use Rattle.std.specs.Option.{unwrap_or}
use Rattle.atom_core.specs.Value.{object, Value, holding, Parts}
use Rattle.atom_core.specs.Spelling.{atom_of}
use Rattle.atom_core.specs.Readers.{urid_of}
use Rattle.patch_control.specs.declared.words.TheConstants.{GET, SET, PUT, PROPERTY, VALUE, SUBJECT, BODY}
use Rattle.patch_control.specs.declared.message.Message.{Message}
use Rattle.patch_control.specs.declared.message.Message.TheVariants.{Get, Set, Put, Other}
use Rattle.patch_control.specs.declared.message.PatchFault.{PatchFault}
use Rattle.patch_control.specs.declared.message.PatchFault.TheVariants.{NotPatch, NoProperty, NoValue, NoBody, SameKey}
use Rattle.patch_control.specs.Properties.{first, repeats_key}

-- a message, whose property and subject are 0 where they are absent
pub data Content : Type 0 where
  -- a property and a subject
  get : ℕ → ℕ → Content
  -- these and a value
  set : ℕ → ℕ → Value → Content
  -- a subject and a body
  put : ℕ → Value → Content
  other : Content

abbrev pub nonzero : Option ℕ → Option ℕ
nonzero None = None
nonzero (Some zero) = None
nonzero (Some (suc n)) = Some (suc n)

-- a property or a subject counts as the number of a URID other than 0
abbrev pub counted : Value → Option ℕ
counted value = nonzero (urid_of value)

-- every value counts as itself, and a body only if it is an Object
abbrev pub any_value : Value → Option Value
any_value value = Some value

abbrev pub an_object : Value → Option Value
an_object (holding (object id kind) parts) = Some (holding (object id kind) parts)
an_object value = None

-- 0 where there is none
abbrev pub or_absent : Option ℕ → ℕ
or_absent number = unwrap_or number 0

abbrev pub subject_in : Parts → ℕ
subject_in parts = or_absent (first counted SUBJECT parts)

-- one of the four keys stands twice
abbrev pub repeats : Parts → Bool
repeats parts = repeats_key PROPERTY parts || (repeats_key VALUE parts || (repeats_key SUBJECT parts || repeats_key BODY parts))

-- a message whose keys must stand once
abbrev pub unless_repeated : Bool → Content → Result Content PatchFault
unless_repeated again content = if again then Err SameKey else Ok content

abbrev pub get_in : Parts → Result Content PatchFault
get_in parts = unless_repeated (repeats parts) (get (or_absent (first counted PROPERTY parts)) (subject_in parts))

abbrev pub set_with : Option ℕ → Option Value → ℕ → Bool → Result Content PatchFault
set_with None value subject again = Err NoProperty
set_with (Some property) None subject again = Err NoValue
set_with (Some property) (Some value) subject again = unless_repeated again (set property subject value)

abbrev pub set_in : Parts → Result Content PatchFault
set_in parts = set_with (first counted PROPERTY parts) (first any_value VALUE parts) (subject_in parts) (repeats parts)

abbrev pub put_with : Option Value → ℕ → Bool → Result Content PatchFault
put_with None subject again = Err NoBody
put_with (Some body) subject again = unless_repeated again (put subject body)

abbrev pub put_in : Parts → Result Content PatchFault
put_in parts = put_with (first an_object BODY parts) (subject_in parts) (repeats parts)

-- what an object of this type says
abbrev pub of_kind : ℕ → Parts → Result Content PatchFault
of_kind kind parts = if kind == GET then get_in parts else if kind == SET then set_in parts else if kind == PUT then put_in parts else Ok other

abbrev pub message_of : Value → Result Content PatchFault
message_of (holding (object id kind) parts) = of_kind kind parts
message_of value = Err NotPatch

-- a message that was read has this content
abbrev pub HasContent : Message → Content → Type 0
HasContent (Get property subject) (get p s) = (property ≡ p) × (subject ≡ s)
HasContent (Set property subject view) (set p s value) = (property ≡ p) × (subject ≡ s) × (view.bytes.now ≡ atom_of value)
HasContent (Put subject view) (put s body) = (subject ≡ s) × (view.bytes.now ≡ atom_of body)
HasContent Other other = Unit {0}
HasContent message content = ⊥

-- the answer of a reader
abbrev pub Reads : Result Message PatchFault → Result Content PatchFault → Type 0
Reads (Ok message) (Ok content) = HasContent message content
Reads (Err fault) (Err right) = fault ≡ right
Reads (Ok message) (Err fault) = ⊥
Reads (Err fault) (Ok content) = ⊥
