use Rattle.std.proofs.Common.{◌≡◌, ℕ, ◌<◌, [], ◌∷◌, get_or}
use Rattle.lv_base.specs.Number.{mix_of}
use Rattle.plug_api.specs.Sound.{silent}
use Rattle.block_signals.proofs.mixing.pass.Given as goal

abbrev pub invariant-loop-frame : goal.invariant-loop-frame
invariant-loop-frame l = (k : ℕ) → k < l.frame → get_or l.out k silent ≡ mix_of (get_or l.signal k silent ∷ [])
