-- The ports of the stock codes.
use Rattle.std.specs.Prelude.{ℕ, List, pos, Some, None, if◌then◌else◌}
use Rattle.std.specs.Str.{bytes_eq}
use Rattle.audio_api.specs.declared.stock.StockPorts.{StockPorts}
use Rattle.audio_api.specs.Stock.{const_uri}

-- a constant: value (control in, first 0), out
abbrev pub const_ports : StockPorts
const_ports = record { count = 2; control = 0; first = record { 0 = pos 0 }; audio_in = None; audio_out = 1 }

-- an amplifier: gain (control in, first 1.0), in, out
abbrev pub amp_ports : StockPorts
amp_ports = record { count = 3; control = 0; first = record { 0 = pos 16777216 }; audio_in = Some 1; audio_out = 2 }

-- the ports of the stock code with this URI
abbrev pub stock_ports : List ℕ → StockPorts
stock_ports uri = if bytes_eq uri const_uri then const_ports else amp_ports
