-- A stock code that is no constant is an amplifier.
use Rattle.std.proofs.Common.{rules}
use Rattle.audio_api.proofs.stock.StockPorts.of.Goals as goal

pub returns-else-eq : goal.returns-else-eq
returns-else-eq c = search rules
