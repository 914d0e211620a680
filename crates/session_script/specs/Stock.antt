-- The plug-ins that a session may name so far, and their control inputs.
use Rattle.std.specs.Prelude.{◌≡◌, ◌⊎◌, ◌||◌, Bool, ℕ, List, codes, if◌then◌else◌}
use Rattle.std.specs.Str.{bytes_eq}

abbrev pub const_uri : List ℕ
const_uri = codes "urn:lv2fx:const"

abbrev pub amp_uri : List ℕ
amp_uri = codes "urn:lv2fx:amp"

abbrev pub is_stock_uri : List ℕ → Bool
is_stock_uri uri = bytes_eq uri const_uri || bytes_eq uri amp_uri

abbrev pub IsStockUri : List ℕ → Type 0
IsStockUri uri = (uri ≡ const_uri) ⊎ (uri ≡ amp_uri)

-- the control input of a constant or an amplifier
abbrev pub control_of : List ℕ → List ℕ
control_of uri = if bytes_eq uri const_uri then codes "value" else codes "gain"
