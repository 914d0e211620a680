-- Notices as text: what an instance answered, with the values of properties.
use Rattle.std.specs.Prelude.{ℕ, ◌==◌, if◌then◌else◌, List, [], ◌++◌, drop, find, flat_map, codes, unwrap_or}
use Rattle.std.specs.Option.{option_map_or}
use Rattle.std.specs.Fmt.{signed_decimal}
use Rattle.std.specs.Int.{w32, w64, cast_signed}
use Rattle.base64.specs.Engines.{standard}
use Rattle.base64.specs.GeneralPurpose.{encode_of}
use Rattle.atom_core.specs.Place.{number_at, wide_at}
use Rattle.urid_map.specs.Numbers.{uri_of}
use Rattle.session_play.specs.Patch.{urid_kind, set_type, put_type, property_key, value_key, body_key, Property, properties_of}

-- a URI by its number; a number that no URI has prints as a dash
abbrev pub uri_text : List (List ℕ) → ℕ → List ℕ
uri_text urids number = unwrap_or (uri_of urids number) (codes "-")

-- the numbers of the types of atoms whose values are written as numbers and URIs
abbrev pub int_kind : ℕ
int_kind = 1

abbrev pub long_kind : ℕ
long_kind = 2

abbrev pub bool_kind : ℕ
bool_kind = 3

abbrev pub fixed_kind : ℕ
fixed_kind = 14

-- a number of four bytes, and one of eight
abbrev pub short_text : Property → List ℕ
short_text it = signed_decimal (cast_signed w32 (number_at it.body 0))

abbrev pub wide_text : Property → List ℕ
wide_text it = signed_decimal (cast_signed w64 (wide_at it.body 0))

-- a value by the type of its atom
abbrev pub value_text : List (List ℕ) → Property → List ℕ
value_text urids it =
    if it.kind == int_kind then codes "int " ++ short_text it
    else if it.kind == long_kind then codes "long " ++ wide_text it
    else if it.kind == bool_kind then codes "bool " ++ short_text it
    else if it.kind == fixed_kind then codes "fixed " ++ wide_text it
    else if it.kind == urid_kind then codes "urid " ++ uri_text urids (number_at it.body 0)
    else codes "bytes " ++ (uri_text urids it.kind ++ (codes " " ++ encode_of standard it.body))

-- the property with a key, as a text
abbrev pub keyed_text : ℕ → (Property → List ℕ) → List Property → List ℕ
keyed_text key text properties = option_map_or text (find (λ (it : Property). it.key == key) properties) []

-- the URI that a property gives, and a property with its value
abbrev pub named_text : List (List ℕ) → Property → List ℕ
named_text urids it = codes " " ++ uri_text urids (number_at it.body 0)

abbrev pub valued_text : List (List ℕ) → Property → List ℕ
valued_text urids it = codes " " ++ value_text urids it

abbrev pub pair_text : List (List ℕ) → Property → List ℕ
pair_text urids it = codes " " ++ (uri_text urids it.key ++ valued_text urids it)

-- all properties of an object that is the body of a message
abbrev pub all_text : List (List ℕ) → Property → List ℕ
all_text urids it = flat_map (pair_text urids) (properties_of it.body)

-- what a message of a type says
abbrev pub message_text : List (List ℕ) → (type : ℕ) → List Property → List ℕ
message_text urids type properties =
    if type == set_type then codes " set" ++ (keyed_text property_key (named_text urids) properties ++ keyed_text value_key (valued_text urids) properties)
    else if type == put_type then codes " put" ++ keyed_text body_key (all_text urids) properties
    else codes " other"

-- of a whole atom, whose object stands after its header of 8 bytes
abbrev pub notice_text : List (List ℕ) → List ℕ → List ℕ
notice_text urids atom = let body = drop 8 atom in message_text urids (number_at body 4) (properties_of body)
