-- The codes that a host can ask for so far.
use Rattle.std.specs.Prelude.{◌≡◌, ◌⊎◌, ℕ, List, codes}

abbrev pub const_uri : List ℕ
const_uri = codes "urn:lv2fx:const"

abbrev pub amp_uri : List ℕ
amp_uri = codes "urn:lv2fx:amp"

abbrev pub IsStockUri : List ℕ → Type 0
IsStockUri uri = (uri ≡ const_uri) ⊎ (uri ≡ amp_uri)
