-- The numbers of URIs: the URID extension of LV2, where a host maps each URI to one integer above 0. Here the URIDs are the list of
-- distinct URIs, and the number of a URI is its place plus one.
use Rattle.std.specs.Prelude.{◌≡◌, ◌↔◌, ℕ, zero, suc, ◌+◌, Bool, IsTrue, if◌then◌else◌, List, [], ◌∷◌, ◌++◌, fold, Option, None, Some, slice_get}
use Rattle.std.specs.List.{list_any, position_or_len}
use Rattle.std.specs.Str.{bytes_eq}

-- the URI is held
abbrev pub holds : List (List ℕ) → List ℕ → Bool
holds urids uri = list_any (bytes_eq uri) urids

-- the place of the URI plus one, where it is held
abbrev pub number_of : List (List ℕ) → List ℕ → ℕ
number_of urids uri = position_or_len (bytes_eq uri) urids + 1

-- the URIDs once the URI is mapped: the same where it is held, else with it at the end
abbrev pub with_uri : List (List ℕ) → List ℕ → List (List ℕ)
with_uri urids uri = if holds urids uri then urids else urids ++ uri ∷ []

-- the URIDs once each of these URIs is mapped in turn
unfoldable pub with_uris : List (List ℕ) → List (List ℕ) → List (List ℕ)
with_uris urids uris = fold with_uri urids uris

-- the URI with this number; 0 is no URI's
abbrev pub uri_of : List (List ℕ) → ℕ → Option (List ℕ)
uri_of urids zero = None
uri_of urids (suc place) = slice_get urids place

-- a number is that of a URI exactly where the number has this URI: a URI has one number, and a number one URI
abbrev pub AreNumbered : List (List ℕ) → Type 0
AreNumbered urids = (uri : List ℕ) (number : ℕ)
    → (uri_of urids number ≡ Some uri) ↔ (IsTrue (holds urids uri) × (number ≡ number_of urids uri))

-- whatever is mapped next, a URI keeps its number
abbrev pub AreKept : List (List ℕ) → Type 0
AreKept urids = (next uri : List ℕ) (number : ℕ) → uri_of urids number ≡ Some uri → uri_of (with_uri urids next) number ≡ Some uri
