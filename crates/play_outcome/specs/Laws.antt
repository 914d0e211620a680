-- What holds of the outputs of all plays.
use Rattle.std.specs.Prelude.{◌≡◌, ℕ, ◌*◌, List, ◌++◌, length}
use Rattle.step_law.specs.declared.entry.Entry.{Entry}
use Rattle.step_law.specs.declared.entry.Kind.TheVariants.{Done}
use Rattle.record_law.specs.Entries.{is_kind}
use Rattle.session_play.specs.Looking.{steps_of}
use Rattle.session_play.specs.Playing.{playing}
use Rattle.session_play.specs.Run.{Run}
use Rattle.graph_order.specs.declared.setup.Setup.{Setup}
use Rattle.session_play.specs.Value.{Play}
use Rattle.play_outcome.specs.Counts.{number_of}
use Rattle.play_outcome.specs.Pcm.{sound_of}

-- what was heard stays heard, whatever comes later
abbrev pub SoundGoesOn : Type 0 → Type 0 → Type 0
SoundGoesOn F B = (run : Run F B) (p : Play F B) (later : List Entry)
    → (more : List ℕ) × (sound_of run.setup (playing run p later) ≡ sound_of run.setup p ++ more)

-- each block that ended has two bytes for each channel in each frame
abbrev pub SoundIsWhole : Type 0 → Type 0 → Type 0
SoundIsWhole F B = (setup : Setup) (p : Play F B)
    → length (sound_of setup p) ≡ 2 * length setup.session.outs * setup.session.block * number_of (λ x. is_kind Done x.entry) (steps_of p)
