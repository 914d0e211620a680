use Rattle.std.proofs.Common.{◌≡◌, ◌++◌, take, drop}
use Rattle.std.specs.Prelude.{map}
use Rattle.lv_base.specs.Number.{gained}
use Rattle.host_main.proofs.stock.amplifier.amplify.Given as goal

-- the frames so far are played, and the others as before
abbrev pub invariant-loop-i : goal.invariant-loop-i
invariant-loop-i l = l.output ≡ map (λ sample. gained sample l.factor) (take l.i l.input) ++ drop l.i l.fn.output
