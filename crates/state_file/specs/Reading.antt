-- The states of a file, as values: each key and each type is the number of its URI.
use Rattle.std.specs.Prelude.{ℕ, List, [], ◌∷◌, map, unwrap_or}
use Rattle.triple_store.specs.declared.term.Term.{Term}
use Rattle.triple_store.specs.declared.term.Triple.{Triple}
use Rattle.state_store.specs.Properties.{with_property}
use Rattle.state_store.specs.declared.prop.Prop.{Prop}
use Rattle.urid_map.specs.Numbers.{number_of}
use Rattle.state_file.specs.States.{states_in, name_in, uri_in, properties_in, key_in, kind_in, flags_in, bytes_in}
use Rattle.state_file.specs.declared.saved.Saved.{Saved}

-- the number of a property's key
abbrev pub key_number : List (List ℕ) → Triple → ℕ
key_number urids property = number_of urids (unwrap_or (key_in property) [])

-- its value
abbrev pub prop_of : List Triple → List (List ℕ) → Triple → Prop
prop_of rows urids property =
    record { kind = number_of urids (unwrap_or (kind_in rows property) []); flags = unwrap_or (flags_in rows property) 0; bytes = unwrap_or (bytes_in rows property) [] }

-- what a shelf holds once these properties are stored in turn
abbrev pub stored : List Triple → List (List ℕ) → List (ℕ × Prop) → List Triple → List (ℕ × Prop)
stored rows urids held [] = held
stored rows urids held (property ∷ properties) =
    stored rows urids (with_property held (key_number urids property) (prop_of rows urids property)) properties

-- a state
unfoldable pub saved_of : List Triple → List (List ℕ) → Term → Saved
saved_of rows urids state =
    record { name = unwrap_or (name_in rows state) []; uri = unwrap_or (uri_in rows state) []; props = stored rows urids [] (properties_in rows state) }

-- all states, in order
unfoldable pub saves_of : List Triple → List (List ℕ) → List Saved
saves_of rows urids = map (saved_of rows urids) (states_in rows)
