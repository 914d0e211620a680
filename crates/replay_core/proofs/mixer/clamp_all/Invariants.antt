use Rattle.std.proofs.Common.{◌≡◌, [], ◌∷◌, take}
use Rattle.lv_base.specs.Number.{clamped}
use Rattle.replay_core.specs.Each.{each}
use Rattle.replay_core.specs.Mixer.{number_at}
use Rattle.replay_core.proofs.mixer.clamp_all.Given as goal

-- the samples up to this frame
abbrev pub invariant-loop-frame : goal.invariant-loop-frame
invariant-loop-frame l = take l.frame l.samples ≡ each l.frame (λ k. clamped (number_at l.sums k) ∷ [])
