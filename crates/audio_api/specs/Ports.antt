-- Ports that are lent for a run.
use Rattle.std.specs.Prelude.{◌≡◌, ◌<◌, ℕ, List, length, slice_index}
use Rattle.std.specs.Borrow.{GName}
use Rattle.lv_base.specs.declared.number.Sample.{Sample}
use Rattle.audio_api.specs.declared.ports.Ports.{Ports}
use Rattle.audio_api.specs.declared.stock.StockPorts.{StockPorts}
use Rattle.audio_api.specs.Sound.{silence, AreWhole}
use Rattle.audio_api.specs.Inputs.{Inputs}
use Rattle.audio_api.specs.Outputs.{Outputs, block_at, with_block}
use Rattle.audio_api.specs.StockPorts.{stock_ports}

-- what the run is given
abbrev pub inputs_of : Ports → Inputs
inputs_of ports = ports.ins.now

-- the places of the output ports, by port number
abbrev pub places_of : Ports → List ℕ
places_of ports = ports.of.now

-- what the outputs have
abbrev pub outputs_of : Ports → Outputs
outputs_of ports = ports.outs.now

-- the borrow of the outputs
abbrev pub reference_of : Ports → GName
reference_of ports = ports.outs.ghost_name

-- the place of output port i
abbrev pub place_of : Ports → ℕ → ℕ
place_of ports i = slice_index (places_of ports) i

-- the samples of output port i
abbrev pub block_of : Ports → ℕ → List Sample
block_of ports i = block_at (outputs_of ports) (place_of ports i)

-- the outputs with these samples at output port i
abbrev pub with_output : Ports → ℕ → List Sample → Outputs
with_output ports i samples = with_block (outputs_of ports) (place_of ports i) samples

-- the outputs with these samples at the audio output of the code with this URI
abbrev pub filled : List ℕ → Ports → List Sample → Outputs
filled uri ports samples = with_output ports (stock_ports uri).audio_out samples

-- There is a place for each port in the inputs, every block has the same frames, and an output of its own, still silent,
-- for the audio output.
pub record AreLent (table : StockPorts) (ports : Ports) : Type 0 where
  pub blocks : length (inputs_of ports).blocks ≡ table.count
  pub values : length (inputs_of ports).values ≡ table.count
  pub whole : AreWhole (inputs_of ports).frames (inputs_of ports).blocks
  pub places : length (places_of ports) ≡ table.count
  pub place : place_of ports table.audio_out < length (outputs_of ports).blocks
  pub silent : block_of ports table.audio_out ≡ silence (inputs_of ports).frames

-- these are the ports of the code with this URI
abbrev pub ArePortsOf : List ℕ → Ports → Type 0
ArePortsOf uri ports = AreLent (stock_ports uri) ports
