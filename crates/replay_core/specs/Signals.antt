-- The signals of a block: what an instance is given, and where it comes from. Each of the codes so far has one control
-- input, at most one audio input and one audio output, so lines name them by the instance alone.
use Rattle.std.specs.Prelude.{ℕ, ◌==◌, List, [], ◌∷◌, map, filter, fold, Option, Some, None, slice_index_or}
use Rattle.lv_base.specs.declared.number.Fixed.{Fixed}
use Rattle.lv_base.specs.declared.number.Sample.{Sample}
use Rattle.lv_base.specs.Number.{mix_of}
use Rattle.session_script.specs.declared.session.Session.{Session}
use Rattle.session_script.specs.declared.session.Inst.{Inst}
use Rattle.session_script.specs.declared.session.SetLine.{SetLine}
use Rattle.session_script.specs.declared.session.CableLine.{CableLine}
use Rattle.audio_api.specs.declared.stock.StockPorts.{StockPorts}
use Rattle.audio_api.specs.Inputs.{Inputs, silent_inputs, with_samples, with_value}
use Rattle.audio_api.specs.Sound.{silent}
use Rattle.audio_api.specs.StockPorts.{stock_ports}
use Rattle.replay_core.specs.Each.{each}

-- the URI of each instance
abbrev pub uris_of : Session → List (List ℕ)
uris_of s = map (λ (inst : Inst). inst.uri) s.insts

abbrev pub uri_at : Session → ℕ → List ℕ
uri_at s i = slice_index_or (uris_of s) i []

-- the ports of instance i
abbrev pub ports_at : Session → ℕ → StockPorts
ports_at s i = stock_ports (uri_at s i)

-- the signal of instance i
abbrev pub signal_at : List (List Sample) → ℕ → List Sample
signal_at signals i = slice_index_or signals i []

-- a frame of a signal
abbrev pub sample_at : List Sample → ℕ → Sample
sample_at signal frame = slice_index_or signal frame silent

-- the mix of signals: in each frame the exact sum, clamped once
abbrev pub mixed_at : List (List Sample) → ℕ → Sample
mixed_at parts frame = mix_of (map (λ part. sample_at part frame) parts)

abbrev pub mixed : ℕ → List (List Sample) → List Sample
mixed frames parts = each frames (λ frame. mixed_at parts frame ∷ [])

-- the instances whose cables lead to instance i, in order of the cables
abbrev pub sources_of : Session → ℕ → List ℕ
sources_of s i = map (λ (cable : CableLine). cable.source) (filter (λ (cable : CableLine). cable.target == i) s.cables)

-- the value of instance i's control input: that of the last line that sets it, else the port's first value
abbrev pub value_of : Session → ℕ → Fixed
value_of s i =
    fold (λ _ (set : SetLine). set.value) (ports_at s i).first (filter (λ (set : SetLine). set.inst == i) s.sets)

-- the inputs of instance i with nothing at its audio input
abbrev pub quiet_inputs : Session → ℕ → Inputs
quiet_inputs s i =
    with_value (silent_inputs (ports_at s i).count s.block) (ports_at s i).control (value_of s i)

-- inputs with this signal at the audio input, if there is one
abbrev pub with_audio : Option ℕ → Inputs → List Sample → Inputs
with_audio None inputs signal = inputs
with_audio (Some port) inputs signal = with_samples inputs port signal

-- the inputs of instance i, where these are the signals of the block so far
abbrev pub inputs_at : Session → List (List Sample) → ℕ → Inputs
inputs_at s signals i =
    with_audio (ports_at s i).audio_in (quiet_inputs s i) (mixed s.block (map (signal_at signals) (sources_of s i)))
