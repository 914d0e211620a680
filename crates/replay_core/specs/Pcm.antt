-- PCM of 16 bits: what the channels have, frame by frame.
use Rattle.std.specs.Prelude.{ℕ, List, flat_map}
use Rattle.std.specs.Int.{w16, cast_unsigned, to_le_bytes}
use Rattle.lv_base.specs.declared.number.Sample.{Sample}
use Rattle.lv_base.specs.Number.{pcm_of}
use Rattle.session_script.specs.declared.session.Session.{Session}
use Rattle.session_script.specs.declared.session.OutLine.{OutLine}
use Rattle.replay_core.specs.Each.{each}
use Rattle.replay_core.specs.Signals.{signal_at, sample_at}

-- a sample in two bytes, the low one first
abbrev pub sample_bytes : Sample → List ℕ
sample_bytes sample = to_le_bytes w16 (cast_unsigned w16 (pcm_of sample))

-- a frame: the sample of each channel, in order
abbrev pub frame_bytes : Session → List (List Sample) → ℕ → List ℕ
frame_bytes s signals frame =
    flat_map (λ (out : OutLine). sample_bytes (sample_at (signal_at signals out.inst) frame)) s.outs

-- a block: each of its frames, in order
abbrev pub block_bytes : Session → List (List Sample) → List ℕ
block_bytes s signals = each s.block (frame_bytes s signals)
