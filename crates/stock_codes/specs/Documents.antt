-- The declarations that come with the codes (LV2 core, in Turtle 1.1).
use Rattle.std.specs.Prelude.{ℕ, List}
use Rattle.stock_codes.specs.declared.name.StockName.{StockName}
use Rattle.stock_codes.specs.declared.name.StockName.TheVariants.{Const, Amp, Mix, Echo, Fetch, Burst, Keep, Tank}
use Rattle.stock_codes.specs.declared.documents.TheConstants.{CONSTANT, AMPLIFIER, MIXER, ECHO, FETCH, BURST, KEEP, TANK}

abbrev pub document_of : StockName → List ℕ
document_of Const = CONSTANT.now
document_of Amp = AMPLIFIER.now
document_of Mix = MIXER.now
document_of Echo = ECHO.now
document_of Fetch = FETCH.now
document_of Burst = BURST.now
document_of Keep = KEEP.now
document_of Tank = TANK.now
