-- The meanings of the stock codes.
use Rattle.std.specs.Prelude.{◌≡◌, ℕ, List, if◌then◌else◌, refl}
use Rattle.std.specs.Str.{bytes_eq}
use Rattle.std.proofs.Common.{inl, inr}
use Rattle.lv_base.specs.declared.number.Sample.{Sample}
use Rattle.audio_api.specs.Inputs.{Inputs}
use Rattle.audio_api.specs.Stock.{const_uri, amp_uri, IsStockUri}
use Rattle.host_main.specs.declared.stock.StockFront.{StockFront}
use Rattle.host_main.specs.declared.stock.StockFront.TheVariants.{Constant, Amplifier}
use Rattle.host_main.specs.StockSound.{constant_sound, amplifier_sound}

-- the URI of a front's code
abbrev pub uri_of : StockFront → List ℕ
uri_of Constant = const_uri
uri_of Amplifier = amp_uri

-- the front that is made of the code with this URI
abbrev pub made_front : List ℕ → StockFront
made_front uri = if bytes_eq uri const_uri then Constant else Amplifier

-- what a front plays in a block
abbrev pub sound_of : StockFront → Inputs → List Sample
sound_of Constant given = constant_sound given
sound_of Amplifier given = amplifier_sound given

-- a front is of the code that it was made of
pub uri_of-made_front : (uri : List ℕ) → IsStockUri uri → uri_of (made_front uri) ≡ uri
uri_of-made_front uri (inl e) = rw e refl
uri_of-made_front uri (inr e) = rw e refl
