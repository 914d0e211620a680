-- The rules of a state file in their order, and the first that its triples break.
use Rattle.std.specs.Prelude.{◌≡◌, ◌⊎◌, ℕ, ◌+◌, ◌<◌, ◌^◌, nat_le, Bool, true, not, ◌&&◌, if◌then◌else◌, List, [], ◌∷◌, ◌++◌, length, map, Option, None, Some, is_some, unwrap_or, option_to_list}
use Rattle.std.specs.List.{list_all, list_any}
use Rattle.triple_store.specs.Triples.{same_term}
use Rattle.triple_store.specs.declared.term.Term.{Term}
use Rattle.triple_store.specs.declared.term.Triple.{Triple}
use Rattle.state_store.specs.declared.status.TheConstants.{MOST_PROPERTIES, MOST_BYTES}
use Rattle.urid_map.specs.Numbers.{with_uris}
use Rattle.urid_map.specs.declared.fault.UridFault.{UridFault}
use Rattle.urid_map.specs.declared.fault.UridFault.TheVariants.{Full, NoMemory as NoNumber}
use Rattle.state_file.specs.States.{states_in, name_in, uri_in, node_in, properties_in, key_in, kind_in, flags_term, bytes_term, flags_in, bytes_in}
use Rattle.state_file.specs.declared.fault.StateFault.{StateFault}
use Rattle.state_file.specs.declared.fault.StateFault.TheVariants.{Shape, Flags, Bytes, Size, UridFull, NoMemory}

-- a property has its parts
unfoldable pub is_property : List Triple → Triple → Bool
is_property rows property =
    (is_some (key_in property) && is_some (kind_in rows property)) && (is_some (flags_term rows property) && is_some (bytes_term rows property))

-- no two of these terms are the same
abbrev pub each_once : List Term → Bool
each_once [] = true
each_once (term ∷ terms) = not (list_any (same_term term) terms) && each_once terms

-- all have their parts, and no key stands twice
abbrev pub are_properties : List Triple → List Triple → Bool
are_properties rows properties = list_all (is_property rows) properties && each_once (map (λ (property : Triple). property.p) properties)

-- a state has its parts, and so have its properties
unfoldable pub is_shaped : List Triple → Term → Bool
is_shaped rows state =
    ((is_some (name_in rows state) && is_some (uri_in rows state)) && is_some (node_in rows state)) && are_properties rows (properties_in rows state)

-- all its flags are 3 or 7
unfoldable pub has_flags : List Triple → Term → Bool
has_flags rows state = list_all (λ property. is_some (flags_in rows property)) (properties_in rows state)

-- all its bytes are canonical base64
unfoldable pub has_bytes : List Triple → Term → Bool
has_bytes rows state = list_all (λ property. is_some (bytes_in rows property)) (properties_in rows state)

-- the bytes of all these properties
abbrev pub size_of : List Triple → List Triple → ℕ
size_of rows [] = 0
size_of rows (property ∷ properties) = length (unwrap_or (bytes_in rows property) []) + size_of rows properties

-- they are as many, and have as many bytes, as a shelf has room for
abbrev pub are_few : List Triple → List Triple → Bool
are_few rows properties = nat_le (length properties) MOST_PROPERTIES && nat_le (size_of rows properties) MOST_BYTES

unfoldable pub has_few : List Triple → Term → Bool
has_few rows state = are_few rows (properties_in rows state)

-- the first rule that some state breaks: each goes through all states before the next
unfoldable pub first_broken : List Triple → Option StateFault
first_broken rows =
    if not (list_all (is_shaped rows) (states_in rows)) then Some Shape
    else if not (list_all (has_flags rows) (states_in rows)) then Some Flags
    else if not (list_all (has_bytes rows) (states_in rows)) then Some Bytes
    else if not (list_all (has_few rows) (states_in rows)) then Some Size else None

-- what is mapped for some properties: of each its key, then its type
abbrev pub uris_of : List Triple → List Triple → List (List ℕ)
uris_of rows [] = []
uris_of rows (property ∷ properties) = (option_to_list (key_in property) ++ option_to_list (kind_in rows property)) ++ uris_of rows properties

-- and for some states
abbrev pub uris_for : List Triple → List Term → List (List ℕ)
uris_for rows [] = []
uris_for rows (state ∷ states) = uris_of rows (properties_in rows state) ++ uris_for rows states

unfoldable pub uris_in : List Triple → List (List ℕ)
uris_in rows = uris_for rows (states_in rows)

-- why states were refused: memory was refused, or it is the first broken rule
abbrev pub IsVerdict : List Triple → StateFault → Type 0
IsVerdict rows fault = (fault ≡ NoMemory) ⊎ (first_broken rows ≡ Some fault)

-- the URIs with numbers would be more than 2^20, the most that there are
abbrev pub AreTooMany : List Triple → List (List ℕ) → Type 0
AreTooMany rows urids = 2 ^ 20 < length (with_uris urids (uris_in rows))

-- why the states weren't read: memory was refused; or it is the first broken rule; or none is broken, and there are too many URIs
abbrev pub IsCause : List Triple → List (List ℕ) → StateFault → Type 0
IsCause rows urids fault =
    IsVerdict rows fault ⊎ ((fault ≡ UridFull) × (first_broken rows ≡ None) × AreTooMany rows urids)

-- the URIDs once the first of some URIs are mapped, perhaps all of them
pub record AreMappedInPart (urids uris new : List (List ℕ)) : Type 0 where
  pub front : List (List ℕ)
  pub rest : List (List ℕ)
  pub cut : uris ≡ front ++ rest
  pub mapped : new ≡ with_uris urids front

-- a URI that got no number is the cause
abbrev pub fault_of : UridFault → StateFault
fault_of Full = UridFull
fault_of NoNumber = NoMemory
