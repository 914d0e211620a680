use Rattle.std.proofs.Common.{◌≡◌, take}
use Rattle.stock_sound.specs.Mixer.{mixed}
use Rattle.stock_sound.proofs.mixer.mix_into.Given as goal

-- the signals are mixed up to this frame
abbrev pub invariant-loop-frame : goal.invariant-loop-frame
invariant-loop-frame l = take l.frame l.out ≡ mixed (take l.frame l.a) (take l.frame l.b)
