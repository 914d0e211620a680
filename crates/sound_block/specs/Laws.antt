-- What the kernels make together: the mix of signals is, frame by frame, the mix of their samples.
use Rattle.std.specs.Prelude.{ℕ, pos, ◌≡◌, ◌<◌, List, map, length, replicate, All}
use Rattle.lv_base.specs.declared.number.Sample.{Sample}
use Rattle.lv_base.specs.Number.{clamped, mix_of}
use Rattle.sound_block.specs.Block.{sums_after, sample_at}

-- signals of so many frames that were added to nothing and finished
abbrev pub finished : ℕ → List (List Sample) → List Sample
finished frames signals = map clamped (sums_after (replicate frames (pos 0)) signals)

abbrev pub FinishedIsMixed : Type 0
FinishedIsMixed = (frames : ℕ) (signals : List (List Sample)) → All (λ (signal : List Sample). length signal ≡ frames) signals → (frame : ℕ) → frame < frames → sample_at (finished frames signals) frame ≡ mix_of (map (λ (signal : List Sample). sample_at signal frame) signals)
