-- What reading the values of properties rests on, once they keep the rules and their URIs are mapped. No public clause rests on it.
use Rattle.std.specs.Prelude.{◌≡◌, ℕ, ◌+◌, ◌<◌, ◌≤◌, ◌^◌, List, [], ◌∷◌, ◌++◌, length, Option, None, Some, is_some, IsTrue}
use Rattle.triple_store.specs.declared.term.Term.{Term}
use Rattle.triple_store.specs.declared.term.Triple.{Triple}
use Rattle.state_store.specs.Properties.{bytes_in as bytes_held}
use Rattle.state_store.specs.declared.prop.Prop.{Prop}
use Rattle.state_store.specs.declared.status.TheConstants.{MOST_PROPERTIES, MOST_BYTES}
use Rattle.urid_map.specs.Numbers.{holds, with_uris}
use Rattle.urid_map.specs.declared.fault.UridFault.{UridFault}
use Rattle.urid_map.specs.declared.fault.UridFault.TheVariants.{Full}
use Rattle.state_file.specs.States.{properties_in, key_in, kind_in, flags_in}
use Rattle.state_file.specs.Rules.{size_of}

-- there is a URI, and it has a number
abbrev pub IsHeld : List (List ℕ) → Option (List ℕ) → Type 0
IsHeld urids None = ⊥
IsHeld urids (Some uri) = IsTrue (holds urids uri)

-- a property can be stored
abbrev pub IsReady : List Triple → List (List ℕ) → Triple → Type 0
IsReady rows urids property = IsHeld urids (key_in property) × IsHeld urids (kind_in rows property) × IsTrue (is_some (flags_in rows property))

-- each of these can be stored
abbrev pub AreReady : List Triple → List (List ℕ) → List Triple → Type 0
AreReady rows urids [] = Unit {0}
AreReady rows urids (property ∷ properties) = IsReady rows urids property × AreReady rows urids properties

-- beside these rows there is room for these properties
abbrev pub HaveRoom : List Triple → List (ℕ × Prop) → List Triple → Type 0
HaveRoom rows held properties =
    (length held + length properties ≤ MOST_PROPERTIES) × (bytes_held held + size_of rows properties ≤ MOST_BYTES)

-- each of these states can be read
abbrev pub AreReadable : List Triple → List (List ℕ) → List Term → Type 0
AreReadable rows urids [] = Unit {0}
AreReadable rows urids (state ∷ states) =
    (AreReady rows urids (properties_in rows state) × HaveRoom rows [] (properties_in rows state)) × AreReadable rows urids states

-- mapping these URIs came to an end before the last, for this cause
pub record IsStopped (urids uris : List (List ℕ)) (fault : UridFault) (new : List (List ℕ)) : Type 0 where
  pub front : List (List ℕ)
  pub rest : List (List ℕ)
  pub cut : uris ≡ front ++ rest
  pub mapped : new ≡ with_uris urids front
  pub full : fault ≡ Full → 2 ^ 20 < length (with_uris urids uris)

-- those of all URIs that stand before these are mapped
pub record AreMappedBefore (urids all left now : List (List ℕ)) : Type 0 where
  pub front : List (List ℕ)
  pub cut : all ≡ front ++ left
  pub mapped : now ≡ with_uris urids front
