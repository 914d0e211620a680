use Rattle.std.proofs.Common.{◌≡◌, take}
use Rattle.std.specs.Prelude.{min}
use Rattle.session_script.specs.Words.{value_of}
use Rattle.session_script.proofs.sorts.number_of.Given as goal

-- 10^18 is `MOST`
abbrev pub invariant-loop-digit : goal.invariant-loop-digit
invariant-loop-digit l = l.number ≡ min (value_of (take l.digit-index l.digits)) 1000000000000000000
