-- The channels of a session, and their PCM in one block: frame by frame, the channels side by side.
use Rattle.std.specs.Prelude.{◌≡◌, ℕ, List, [], false, flat_map, map, Option, Some, None, IfSome}
use Rattle.std.specs.List.{range_with_len}
use Rattle.lv_base.specs.declared.number.Sample.{Sample}
use Rattle.plugin_decl.specs.declared.declaration.PortKind.TheVariants.{Audio}
use Rattle.session_script.specs.declared.session.CableLine.{CableLine}
use Rattle.session_script.specs.declared.session.OutLine.{OutLine}
use Rattle.graph_order.specs.declared.setup.Setup.{Setup}
use Rattle.plug_api.specs.Signal.{samples_in}
use Rattle.play_outcome.specs.Pcm.{frame_bytes, block_bytes}
use Rattle.session_play.specs.Looking.{in_block}
use Rattle.session_play.specs.Value.{Play}
use Rattle.block_signals.specs.declared.channels.Channels.{Channels}
use Rattle.block_signals.specs.declared.outlets.Outlets.{Outlets}
use Rattle.block_signals.specs.declared.source.Source.{Source}
use Rattle.block_signals.specs.Board.{Board, board_of}
use Rattle.block_signals.specs.Given.{cable_brings}
use Rattle.block_signals.specs.Mixing.{heard, IsHeard}
use Rattle.block_signals.specs.Sources.{source_of}

-- a channel is heard as over a cable without delay
abbrev pub as_cable : OutLine → CableLine
as_cable out = record { source = out.inst; output = out.symbol; target = 0; input = []; delayed = false; line = out.line }

abbrev pub channel_given : Setup → Board → OutLine → List Sample
channel_given setup board out = samples_in (cable_brings setup board (as_cable out))

-- the PCM of a block, by what is known
abbrev pub block_given : Setup → Board → List ℕ
block_given setup board = flat_map (frame_bytes (map (channel_given setup board) setup.session.outs)) (range_with_len 0 setup.session.block)

-- that of the block at hand is what its runs so far make it
abbrev pub BoardGivesBlock : Type 0 → Type 0 → Type 0
BoardGivesBlock F B = (setup : Setup) (urids : List (List ℕ)) (own : Play F B) → block_bytes setup (in_block own) ≡ block_given setup (board_of setup urids own)

-- where each channel is heard
abbrev pub channel_of : Setup → OutLine → Option Source
channel_of setup out = source_of setup Audio (as_cable out)

pub record AreChannels (setup : Setup) (channels : Channels) : Type 0 where
  pub each : channels.each ≡ map (channel_of setup) setup.session.outs
  pub frames : channels.frames ≡ setup.session.block

-- what is heard there
abbrev pub channel_heard : Outlets → Option Source → List Sample
channel_heard outlets None = []
channel_heard outlets (Some source) = heard outlets source

abbrev pub IsOpen : ℕ → Outlets → Option Source → Type 0
IsOpen frames outlets channel = IfSome channel (IsHeard frames outlets)
