-- The bundle that counts for a plug-in which several declare: the one with the greatest version (LV2 core, lv2:minorVersion and
-- lv2:microVersion), and of several with that version the first.
use Rattle.std.specs.Prelude.{◌≡◌, ℕ, ◌<◌, ◌==◌, nat_lt, Bool, true, false, ◌&&◌, ◌||◌, List, Option, None, Some, slice_get, option_and_then, if◌then◌else◌}
use Rattle.triple_store.specs.declared.term.Triple.{Triple}
use Rattle.plugin_decl.specs.declared.declaration.Version.{Version}
use Rattle.plugin_decl.specs.Declaration.{version_of}
use Rattle.session_setup.specs.declared.newest.Declared.{Declared}

-- a version is greater than another: by its minor number, and then by its micro number
abbrev pub is_above : Version → Version → Bool
is_above version other = nat_lt other.minor version.minor || (version.minor == other.minor && nat_lt other.micro version.micro)

-- the version with which the bundle at a place declares a plug-in, if it does
abbrev pub version_at : List (List Triple) → List ℕ → ℕ → Option Version
version_at bundles uri place = option_and_then (λ rows. version_of rows uri) (slice_get bundles place)

-- none of the first n bundles declares it
abbrev pub IsNowhere : List (List Triple) → List ℕ → ℕ → Type 0
IsNowhere bundles uri n = (place : ℕ) → place < n → version_at bundles uri place ≡ None

-- of the first n bundles this one declares it with the greatest version, and none before it with that version
pub record IsNewest (bundles : List (List Triple)) (uri : List ℕ) (n : ℕ) (found : Declared) : Type 0 where
  pub there : found.place < n
  pub declared : version_at bundles uri found.place ≡ Some found.version
  pub greatest : (place : ℕ) (version : Version) → place < n → version_at bundles uri place ≡ Some version → is_above version found.version ≡ false
  pub first : (place : ℕ) (version : Version) → place < found.place → version_at bundles uri place ≡ Some version → is_above found.version version ≡ true

-- the bundle among the first n that counts, if one does
abbrev pub Finds : List (List Triple) → List ℕ → ℕ → Option Declared → Type 0
Finds bundles uri n None = IsNowhere bundles uri n
Finds bundles uri n (Some found) = IsNewest bundles uri n found

-- the bundle that counts once the next one has been looked at, which stands at this place and declares this version, if any
abbrev pub newer : Option Declared → ℕ → Option Version → Option Declared
newer found place None = found
newer None place (Some version) = Some (record { place = place; version = version })
newer (Some found) place (Some version) =
    if is_above version found.version then Some (record { place = place; version = version }) else Some found

-- of the first n bundles at most one counts, or none does
abbrev pub HasOneNewest : Type 0
HasOneNewest = (bundles : List (List Triple)) (uri : List ℕ) (n : ℕ) (a b : Option Declared) → Finds bundles uri n a → Finds bundles uri n b → a ≡ b

-- and one counts, or none declares the plug-in
abbrev pub HasSomeNewest : Type 0
HasSomeNewest = (bundles : List (List Triple)) (uri : List ℕ) (n : ℕ) → (found : Option Declared) × Finds bundles uri n found
