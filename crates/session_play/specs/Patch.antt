-- Patch messages (LV2 patch): those that actions send, and which answers are messages.
use Rattle.std.specs.Prelude.{ℕ, zero, suc, ◌+◌, ◌==◌, nat_lt, Bool, true, not, ◌&&◌, if◌then◌else◌, List, [], ◌∷◌, drop, length, filter, slice_range, Option, Some, None}
use Rattle.std.specs.List.{list_any}
use Rattle.session_script.specs.declared.session.Deed.{Deed}
use Rattle.session_script.specs.declared.session.Deed.TheVariants.{Set, PatchFixed, PatchInt, PatchGet, Save, Restore}
use Rattle.atom_core.specs.Place.{number_at, size_at, kind_at, padded}
use Rattle.atom_core.specs.Value.{urid, int, fixed, object, keyed, Value, plain, holding, Parts, none, part}
use Rattle.urid_map.specs.Numbers.{number_of}

-- the numbers of patch:Get, patch:Set and patch:Put, of the keys of messages, and of the atoms that they hold
abbrev pub get_type : ℕ
get_type = 15

abbrev pub set_type : ℕ
set_type = 16

abbrev pub put_type : ℕ
put_type = 17

abbrev pub property_key : ℕ
property_key = 18

abbrev pub value_key : ℕ
value_key = 19

abbrev pub subject_key : ℕ
subject_key = 20

abbrev pub body_key : ℕ
body_key = 21

abbrev pub urid_kind : ℕ
urid_kind = 4

abbrev pub object_kind : ℕ
object_kind = 9

-- ---- what actions send

-- a patch:Set of the property with this URI
abbrev pub set_message : List (List ℕ) → List ℕ → Value → Value
set_message urids property value =
    holding (object 0 set_type) (part (keyed property_key 0) (plain (urid (number_of urids property))) (part (keyed value_key 0) value none))

-- a patch:Get of a property, or of all
abbrev pub asked_parts : List (List ℕ) → Option (List ℕ) → Parts
asked_parts urids None = none
asked_parts urids (Some property) = part (keyed property_key 0) (plain (urid (number_of urids property))) none

abbrev pub get_message : List (List ℕ) → Option (List ℕ) → Value
get_message urids property = holding (object 0 get_type) (asked_parts urids property)

-- the message that an action sends, where these URIs have numbers
abbrev pub message_of : List (List ℕ) → Deed → Option Value
message_of urids (PatchFixed property value) = Some (set_message urids property (plain (fixed value.0)))
message_of urids (PatchInt property value) = Some (set_message urids property (plain (int value)))
message_of urids (PatchGet property) = Some (get_message urids property)
message_of urids (Set symbol value) = None
message_of urids Save = None
message_of urids (Restore path place) = None

-- the properties that an action names
abbrev pub named_in : Deed → List (List ℕ)
named_in (PatchFixed property value) = property ∷ []
named_in (PatchInt property value) = property ∷ []
named_in (PatchGet None) = []
named_in (PatchGet (Some property)) = property ∷ []
named_in (Set symbol value) = []
named_in Save = []
named_in (Restore path place) = []

-- ---- the properties of an object (LV2 atom, `LV2_Atom_Property_Body`: a key, a context, an atom, and zeros up to a multiple of 8)

pub record Property : Type 0 where
  pub key : ℕ
  pub kind : ℕ
  pub body : List ℕ

abbrev pub first_property : List ℕ → Property
first_property bytes = record { key = number_at bytes 0; kind = kind_at bytes 8; body = slice_range bytes 16 (16 + size_at bytes 8) }

abbrev pub properties_within : ℕ → List ℕ → List Property
properties_within zero bytes = []
properties_within (suc more) bytes =
    let later = properties_within more (drop (16 + padded (size_at bytes 8)) bytes) in if nat_lt (length bytes) 16 then [] else first_property bytes ∷ later

-- those of an object with this body, which stand after its id and its type
abbrev pub properties_of : List ℕ → List Property
properties_of body = properties_within (length body) (drop 8 body)

-- ---- which atoms are messages

abbrev pub with_key : ℕ → List Property → List Property
with_key key properties = filter (λ (it : Property). it.key == key) properties

-- a property or a subject is the number of a URI
abbrev pub is_uri : Property → Bool
is_uri it = it.kind == urid_kind && nat_lt 0 (number_at it.body 0)

abbrev pub is_object : Property → Bool
is_object it = it.kind == object_kind

-- one of the keys of messages stands twice
abbrev pub is_twice : List Property → Bool
is_twice properties = list_any (λ key. nat_lt 1 (length (with_key key properties))) (property_key ∷ value_key ∷ subject_key ∷ body_key ∷ [])

-- a Set has a property and a value
abbrev pub is_set : List Property → Bool
is_set properties = list_any is_uri (with_key property_key properties) && nat_lt 0 (length (with_key value_key properties))

-- a Put has an object as its body
abbrev pub is_put : List Property → Bool
is_put properties = list_any is_object (with_key body_key properties)

-- of an object of this type: one of another type may be any other message
abbrev pub is_message_of : ℕ → List Property → Bool
is_message_of type properties =
    if type == get_type then not (is_twice properties)
    else if type == set_type then is_set properties && not (is_twice properties)
    else if type == put_type then is_put properties && not (is_twice properties)
    else true

-- an atom of this kind with this body is a patch message
abbrev pub is_message : (kind : ℕ) → (body : List ℕ) → Bool
is_message kind body = kind == object_kind && is_message_of (number_at body 4) (properties_of body)
