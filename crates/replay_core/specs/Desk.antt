-- What stands ready for the instances between their runs.
use Rattle.std.specs.Prelude.{◌≡◌, ◌<◌, ℕ, List, length, slice_index_or}
use Rattle.lv_base.specs.declared.number.Sample.{Sample}
use Rattle.session_script.specs.declared.session.Session.{Session}
use Rattle.replay_core.specs.declared.strip.Strip.{Strip}
use Rattle.replay_core.specs.declared.desk.Desk.{Desk}
use Rattle.audio_api.specs.Sound.{AreWhole}
use Rattle.replay_core.specs.Signals.{ports_at, quiet_inputs, with_audio}

-- the strip of instance i: all that it is given but for the signal at its audio input is as in every block
pub record IsStrip (s : Session) (i : ℕ) (strip : Strip) : Type 0 where
  pub ports : strip.ports ≡ ports_at s i
  pub signal : List Sample
  pub whole : length signal ≡ s.block
  pub ins : strip.ins ≡ with_audio (ports_at s i).audio_in (quiet_inputs s i) signal

-- a strip and a block of outputs for each instance, and room to mix
pub record IsReady (s : Session) (desk : Desk) : Type 0 where
  pub count : length desk.strips.items ≡ length s.insts
  pub strips : (i : ℕ) (d : Strip) → i < length desk.strips.items → IsStrip s i (slice_index_or desk.strips.items i d)
  pub places : length desk.outs.blocks ≡ length s.insts
  pub whole : AreWhole s.block desk.outs.blocks
  pub mixer : length desk.mixer ≡ s.block
